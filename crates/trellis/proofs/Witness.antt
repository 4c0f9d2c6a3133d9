-- The witness search finds nothing exactly if the table is rectangular, and else the first words that force a missing one, in the stated
-- order. A search over a range finds what it finds at the first place where there is something; each of the four searches is one of these.
use mathlib.Core.Path.{◌≡◌, refl, sym, ap, subst, ◌∙◌}
use mathlib.Core.Bool.{Bool, true, false, ◌&&◌, not}
use mathlib.Core.Logic.{◌↔◌}
use mathlib.Core.List.{List}
use Prim.Native.Nat.{ℕ, zero, suc, ◌+◌, ◌-◌, ◌≤◌, ◌<◌}
use native.Mathlib.Omega.{arith}
use native.Mathlib.Decide.{ℕ_discrete, dec_lt}
use lib.ListN.{length}
use lib.Dec.{T, eqb, eqb→eq, T_not, not_T}
use Rattle.trellis.specs.Lists.{◌∈◌, is_in}
use Rattle.trellis.specs.Label.{front, back}
use Rattle.trellis.specs.Word.{Word, word_at, same_word, beginning, ending, joined, Rectangular}
use Rattle.trellis.specs.Witness.{Witness, found, nothing, same_beginning, same_ending, refutes, or_else, when, first_of, over_k, over_j}
use Rattle.trellis.specs.Witness.{witness_at, witness, Refuted, FirstRefuted}
use Rattle.trellis.proofs.Bools.{holds, fails, both, join, eqb_of}
use Rattle.trellis.proofs.Lists.{in_yes, in_of}
use Rattle.trellis.proofs.Words.{word_in, same_yes, same_self, beginning_root, beginning_front, beginning_eq, ending_back}
use Rattle.trellis.proofs.Words.{ending_goal, ending_eq, rectangular_by}

-- ---- a search over a range

-- what stands at one place of the range, with nothing before it
pub record Hit (f : ℕ → Witness) (low count : ℕ) (w : Witness) : Type 0 where
  pub place : ℕ
  pub from : low ≤ place
  pub inside : place < low + count
  pub is : f place ≡ w
  pub before : (m : ℕ) → low ≤ m → m < place → f m ≡ nothing

pub none_found : {t i j k : ℕ} → ◌≡◌ {A = Witness} nothing (found t i j k) → ⊥
none_found e = let z : ◌≡◌ {A = ℕ} 0 1 = cc in omega arith

pub search_none : (count low : ℕ) (f : ℕ → Witness) → first_of count low f ≡ nothing → (m : ℕ) → low ≤ m → m < low + count → f m ≡ nothing
unfolding first_of
search_none zero low f e m a b = absurd (omega arith)
search_none (suc count) low f e m a b = go (f low) refl e (search_none count (suc low) f) (ℕ_discrete m low)
  where
    go : (w : Witness) → f low ≡ w → or_else w (first_of count (suc low) f) ≡ nothing
        → (first_of count (suc low) f ≡ nothing → (j : ℕ) → suc low ≤ j → j < suc low + count → f j ≡ nothing) → Dec (m ≡ low)
        → f m ≡ nothing
    go (found t i j k) p q r d = absurd (none_found (sym q))
    go nothing p q r (yes d) = ap f d ∙ p
    go nothing p q r (no d) = r q m (omega arith) (omega arith)

pub search_hit : (count low : ℕ) (f : ℕ → Witness) (t i j k : ℕ) → first_of count low f ≡ found t i j k → Hit f low count (found t i j k)
unfolding first_of
search_hit zero low f t i j k e = absurd (none_found e)
search_hit (suc count) low f t i j k e = go (f low) refl e (search_hit count (suc low) f t i j k)
  where
    later : (j : ℕ) → f low ≡ nothing → (H : Hit f (suc low) count (found t i j k)) → Hit f low (suc count) (found t i j k)
    later j p H = record {
      place = H.place;
      from = omega (arith, H.from);
      inside = omega (arith, H.inside);
      is = H.is;
      before = λ m a b. before m a b (ℕ_discrete m low);
    }
      where
        before : (m : ℕ) → low ≤ m → m < H.place → Dec (m ≡ low) → f m ≡ nothing
        before m a b (yes d) = ap f d ∙ p
        before m a b (no d) = H.before m (omega arith) b

    go : (w : Witness) → f low ≡ w → or_else w (first_of count (suc low) f) ≡ found t i j k
        → (first_of count (suc low) f ≡ found t i j k → Hit f (suc low) count (found t i j k)) → Hit f low (suc count) (found t i j k)
    go (found t' i' j' k') p q r =
        record { place = low; from = omega arith; inside = omega arith; is = p ∙ q; before = λ m a b. absurd (omega arith) }
    go nothing p q r = later j p (r q)

-- ---- one test

module _ (n t : ℕ) (v w : Word) where
  pub begins_yes : T (same_beginning n t v w) → beginning n t v ≡ beginning n t w
  begins_yes s =
      let p = both (eqb v.root w.root) (eqb (front n t v.label) (front n t w.label)) s in
      beginning_eq (eqb→eq _ _ p.0) (eqb→eq _ _ p.1)

  pub begins_of : beginning n t v ≡ beginning n t w → T (same_beginning n t v w)
  begins_of e = join (eqb v.root w.root) (eqb (front n t v.label) (front n t w.label)) (eqb_of (beginning_root e))
      (eqb_of (beginning_front e))

  pub ends_yes : T (same_ending n t v w) → ending n t v ≡ ending n t w
  ends_yes s =
      let p = both (eqb (back n t v.label) (back n t w.label)) (eqb v.goal w.goal) s in
      ending_eq (eqb→eq _ _ p.0) (eqb→eq _ _ p.1)

  pub ends_of : ending n t v ≡ ending n t w → T (same_ending n t v w)
  ends_of e = join (eqb (back n t v.label) (back n t w.label)) (eqb v.goal w.goal) (eqb_of (ending_back e))
      (eqb_of (ending_goal e))

module _ (n : ℕ) (table : List Word) where
  -- the fourth word is in the table
  abbrev fourth : ℕ → ℕ → ℕ → Bool
  fourth t j k = is_in same_word (joined n t (word_at table k) (word_at table j)) table

  -- ---- the test says what a witness is, of words of the table and an inner depth

  pub record Bounds (t i j k : ℕ) : Type 0 where
    pub inner : (0 < t) × (t < n)
    pub words : (i < length table) × (j < length table) × (k < length table)

  pub refutes_yes : (t i j k : ℕ) → Bounds t i j k → T (refutes n table t i j k) → Refuted n table t i j k
  unfolding refutes
  refutes_yes t i j k B s =
      let p = both (same_beginning n t (word_at table i) (word_at table j))
      (same_ending n t (word_at table i) (word_at table k) && not (fourth t j k)) s in
      let q = both (same_ending n t (word_at table i) (word_at table k)) (not (fourth t j k)) p.1 in
      record {
        inner = B.inner;
        words = B.words;
        begins = begins_yes n t (word_at table i) (word_at table j) p.0;
        ends = ends_yes n t (word_at table i) (word_at table k) q.0;
        missing = λ m. T_not (fourth t j k) q.1 (in_of same_word same_yes same_self _ table m);
      }

  pub refutes_of : (t i j k : ℕ) → Refuted n table t i j k → T (refutes n table t i j k)
  unfolding refutes
  refutes_of t i j k R =
      join (same_beginning n t (word_at table i) (word_at table j)) (same_ending n t (word_at table i) (word_at table k) && not (fourth t j k))
      (begins_of n t (word_at table i) (word_at table j) R.begins)
      (join (same_ending n t (word_at table i) (word_at table k)) (not (fourth t j k))
      (ends_of n t (word_at table i) (word_at table k) R.ends)
      (not_T (fourth t j k) (λ s. R.missing (in_yes same_word same_yes same_self _ table s))))

  -- ---- the four searches, from the innermost

  when_found : (b : Bool) (t i j k a p q r : ℕ) → when b (found t i j k) ≡ found a p q r → T b × (found t i j k ≡ found a p q r)
  when_found true t i j k a p q r e = (tt, e)
  when_found false t i j k a p q r e = absurd (none_found e)

  when_none : (b : Bool) (t i j k : ℕ) → when b (found t i j k) ≡ nothing → T b → ⊥
  when_none true t i j k e s = none_found (sym e)
  when_none false t i j k e s = s

  -- what the search over k at depth t, for i and j, finds
  record FoundK (t i j a p q r : ℕ) : Type 0 where
    same_t : a ≡ t
    same_i : p ≡ i
    same_j : q ≡ j
    below : r < length table
    passes : T (refutes n table t i j r)
    least : (k : ℕ) → k < r → T (refutes n table t i j k) → ⊥

  found_k : (t i j a p q r : ℕ) → over_k n table t i j ≡ found a p q r → FoundK t i j a p q r
  unfolding over_k
  found_k t i j a p q r e =
      let H = search_hit (length table) 0 (λ k. when (refutes n table t i j k) (found t i j k)) a p q r e in
      let k = H.place in
      let w = when_found (refutes n table t i j k) t i j k a p q r H.is in
      let same : found t i j k ≡ found a p q r = w.1 in
      let d : k ≡ r = cc in
      record {
        same_t = cc;
        same_i = cc;
        same_j = cc;
        below = omega (arith, H.inside);
        passes = subst (λ z. T (refutes n table t i j z)) d w.0;
        least = λ m b. when_none (refutes n table t i j m) t i j m (H.before m (omega arith) (omega arith));
      }

  none_k : (t i j : ℕ) → over_k n table t i j ≡ nothing → (k : ℕ) → k < length table → T (refutes n table t i j k) → ⊥
  unfolding over_k
  none_k t i j e k h =
      when_none (refutes n table t i j k) t i j k
      (search_none (length table) 0 (λ k. when (refutes n table t i j k) (found t i j k)) e k (omega arith) (omega arith))

  -- over j
  record FoundJ (t i a p q r : ℕ) : Type 0 where
    same_t : a ≡ t
    same_i : p ≡ i
    below : q < length table
    is : over_k n table t i q ≡ found a p q r
    least : (j : ℕ) → j < q → over_k n table t i j ≡ nothing

  found_j : (t i a p q r : ℕ) → over_j n table t i ≡ found a p q r → FoundJ t i a p q r
  unfolding over_j
  found_j t i a p q r e =
      let H = search_hit (length table) 0 (over_k n table t i) a p q r e in
      let K = found_k t i H.place a p q r H.is in
      record {
        same_t = K.same_t;
        same_i = K.same_i;
        below = omega (arith, H.inside, K.same_j);
        is = ap (over_k n table t i) K.same_j ∙ H.is;
        least = λ j b. H.before j (omega arith) (omega (arith, K.same_j));
      }

  none_j : (t i : ℕ) → over_j n table t i ≡ nothing → (j : ℕ) → j < length table → over_k n table t i j ≡ nothing
  unfolding over_j
  none_j t i e j h = search_none (length table) 0 (over_k n table t i) e j (omega arith) (omega arith)

  -- over i
  record FoundI (t a p q r : ℕ) : Type 0 where
    same_t : a ≡ t
    below : p < length table
    is : over_j n table t p ≡ found a p q r
    least : (i : ℕ) → i < p → over_j n table t i ≡ nothing

  found_i : (t a p q r : ℕ) → witness_at n table t ≡ found a p q r → FoundI t a p q r
  unfolding witness_at
  found_i t a p q r e =
      let H = search_hit (length table) 0 (over_j n table t) a p q r e in
      let J = found_j t H.place a p q r H.is in
      record {
        same_t = J.same_t;
        below = omega (arith, H.inside, J.same_i);
        is = ap (over_j n table t) J.same_i ∙ H.is;
        least = λ i b. H.before i (omega arith) (omega (arith, J.same_i));
      }

  none_i : (t : ℕ) → witness_at n table t ≡ nothing → (i : ℕ) → i < length table → over_j n table t i ≡ nothing
  unfolding witness_at
  none_i t e i h = search_none (length table) 0 (over_j n table t) e i (omega arith) (omega arith)

  -- over the inner depths
  record FoundT (a p q r : ℕ) : Type 0 where
    inner : (0 < a) × (a < n)
    is : witness_at n table a ≡ found a p q r
    least : (t : ℕ) → 0 < t → t < a → witness_at n table t ≡ nothing

  found_t : (a p q r : ℕ) → witness n table ≡ found a p q r → FoundT a p q r
  unfolding witness
  found_t a p q r e =
      let H = search_hit (n - 1) 1 (witness_at n table) a p q r e in
      let I = found_i H.place a p q r H.is in
      record {
        inner = (omega (arith, H.from, I.same_t), omega (arith, H.inside, I.same_t));
        is = ap (witness_at n table) I.same_t ∙ H.is;
        least = λ t h b. H.before t h (omega (arith, I.same_t));
      }

  none_t : witness n table ≡ nothing → (t : ℕ) → 0 < t → t < n → witness_at n table t ≡ nothing
  unfolding witness
  none_t e t a b = search_none (n - 1) 1 (witness_at n table) e t a (omega arith)

  -- ---- nothing found, nothing there

  nowhere_k : (t i j k : ℕ) → over_k n table t i j ≡ nothing → Refuted n table t i j k → ⊥
  nowhere_k t i j k e R = none_k t i j e k R.words.2 (refutes_of t i j k R)

  nowhere_j : (t i j k : ℕ) → over_j n table t i ≡ nothing → Refuted n table t i j k → ⊥
  nowhere_j t i j k e R = nowhere_k t i j k (none_j t i e j R.words.1) R

  nowhere_i : (t i j k : ℕ) → witness_at n table t ≡ nothing → Refuted n table t i j k → ⊥
  nowhere_i t i j k e R = nowhere_j t i j k (none_i t e i R.words.0) R

  -- ---- the first witness

  not_before : (a b : ℕ) → (b < a → ⊥) → a ≤ b
  not_before a b h = go (dec_lt b a)
    where
      go : Dec (b < a) → a ≤ b
      go (yes p) = absurd (h p)
      go (no p) = omega arith

  pub witness_first : (t i j k : ℕ) → witness n table ≡ found t i j k → FirstRefuted n table t i j k
  witness_first t i j k e =
      let A = found_t t i j k e in
      let I = found_i t t i j k A.is in
      let J = found_j t i t i j k I.is in
      let K = found_k t i j t i j k J.is in
      record {
        refuted = refutes_yes t i j k (record { inner = A.inner; words = (I.below, J.below, K.below) }) K.passes;
        depth = λ t' i' j' k' R. not_before t t' (λ b. nowhere_i t' i' j' k' (A.least t' R.inner.0 b) R);
        first_i = λ i' j' k' R. not_before i i' (λ b. nowhere_j t i' j' k' (I.least i' b) R);
        first_j = λ j' k' R. not_before j j' (λ b. nowhere_k t i j' k' (J.least j' b) R);
        first_k = λ k' R. not_before k k' (λ b. K.least k' b (refutes_of t i j k' R));
      }

  -- ---- no witness: rectangular

  pub rectangular_refuted : Rectangular n table → (t i j k : ℕ) → Refuted n table t i j k → ⊥
  rectangular_refuted R t i j k F = F.missing
      (R t F.inner.0 F.inner.1 (word_at table i) (word_at table j) (word_at table k)
      (word_in table i F.words.0) (word_in table j F.words.1) (word_in table k F.words.2) F.begins F.ends)

  pub witness_none : (witness n table ≡ nothing) ↔ Rectangular n table
  witness_none = (to, λ R. of R (witness n table) refl)
    where
      to : witness n table ≡ nothing → Rectangular n table
      to e t p q = rectangular_by n t table (λ i j k a b c x y. go i j k a b c x y (fourth t j k) refl)
        where
          go : (i j k : ℕ) → i < length table → j < length table → k < length table
              → beginning n t (word_at table i) ≡ beginning n t (word_at table j)
              → ending n t (word_at table i) ≡ ending n t (word_at table k) → (b : Bool) → fourth t j k ≡ b
              → joined n t (word_at table k) (word_at table j) ∈ table
          go i j k a b c x y true f = in_yes same_word same_yes same_self _ table (holds f)
          go i j k a b c x y false f = absurd (nowhere_i t i j k (none_t e t p q)
              (record {
                inner = (p, q);
                words = (a, b, c);
                begins = x;
                ends = y;
                missing =
                    λ m. fails f (in_of same_word same_yes same_self _ table m);
              }))

      of : Rectangular n table → (w : Witness) → witness n table ≡ w → witness n table ≡ nothing
      of R (found t i j k) e = absurd (rectangular_refuted R t i j k (witness_first t i j k e).refuted)
      of R nothing e = e
