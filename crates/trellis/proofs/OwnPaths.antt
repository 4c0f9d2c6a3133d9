-- The paths of our section, in table order: where a word's edge is new and leads to an old vertex, all that follows on its path is old.
-- At an inner depth the old vertex is shared with an earlier word of another beginning; that beginning followed by this word's ending is a
-- word, and it stands before this one, so it has taken the rest of the path already.
use mathlib.Core.Path.{◌≡◌, refl, sym, ap, subst, ◌∙◌}
use mathlib.Core.List.Memᴰ
use mathlib.Core.List.{List}
use Prim.Native.Nat.{ℕ, zero, suc, ◌-◌, ◌≤◌, ◌<◌}
use native.Mathlib.Omega.{arith}
use native.Mathlib.Decide.{ℕ_discrete, dec_lt}
use lib.ListN.{length}
use lib.Arith.{lt_of_le-ne}
use Rattle.trellis.specs.Lists.{◌∈◌, by_first, by_second, by_third}
use Rattle.trellis.specs.Label.{symbol, front, back}
use Rattle.trellis.specs.Word.{Word, word_at, Before, Table, beginning, ending, joined}
use Rattle.trellis.specs.Own.{edge}
use Rattle.trellis.proofs.Lists.{From}
use Rattle.trellis.proofs.Distinct.{upto, in_upto, from_upto}
use Rattle.trellis.proofs.Labels.{front_mono, front_step, symbol_front, symbol_back, back_later, spliced_lower}
use Rattle.trellis.proofs.Words.{word_in, index, comes_first, beginning_root, beginning_front, beginning_eq, ending_back}
use Rattle.trellis.proofs.Words.{ending_goal, ending_eq, joined_ending, joined_is}
use Rattle.trellis.proofs.Vertices.{Numbering}
use Rattle.trellis.proofs.Paths.{step}
use Rattle.trellis.proofs.Families.{Ended}

-- the symbol of word i at step t
abbrev pub symbol_at : ℕ → List Word → ℕ → ℕ → ℕ
symbol_at n table t i = symbol n t (word_at table i).label

module _ (n : ℕ) (table : List Word) (G : Table n table) where
  -- an earlier beginning with the same ending comes earlier
  pub joined_first : (t j i : ℕ) → j < i → i < length table → (beginning n t (word_at table j) ≡ beginning n t (word_at table i) → ⊥)
      → Before (joined n t (word_at table j) (word_at table i)) (word_at table i)
  joined_first t j i a b h = go (G.ascends j i a b)
    where
      go : Before (word_at table j) (word_at table i) → Before (joined n t (word_at table j) (word_at table i)) (word_at table i)
      go (by_first p) = by_first p
      go (by_third p q r) = absurd (h (beginning_eq p (ap (front n t) q)))
      go (by_second p q) = by_second p (spliced_lower n t _ _ (lt_of_le-ne (front_mono n t (omega arith)) (λ e. h (beginning_eq p e))))

  module _ (c : ℕ → ℕ → ℕ) (O : Numbering n table c) where
    -- words that begin alike share a vertex there
    pub begun : (t i j : ℕ) → t < n → i < length table → j < length table → beginning n t (word_at table j) ≡ beginning n t (word_at table i)
        → c t i ≡ c t j
    begun zero i j h a b m = (O.roots i j a b).1 (sym (beginning_root m))
    begun (suc t) i j h a b m = (O.inner (suc t) (omega arith) h i j a b).1
        (Memᴰ.cast (sym (joined_is n (suc t) (word_at table j) (word_at table i) (word_at table j) m refl)) (word_in table j b))

    -- and so do words that end alike
    pub ended : (t i k : ℕ) → 0 < t → t ≤ n → i < length table → k < length table
        → ending n t (word_at table k) ≡ ending n t (word_at table i) → c t i ≡ c t k
    ended t i k z h a b m = go (ℕ_discrete t n)
      where
        go : Dec (t ≡ n) → c t i ≡ c t k
        go (yes e) = subst (λ u. c u i ≡ c u k) (sym e) ((O.goals i k a b).1 (sym (ending_goal m)))
        go (no e) = sym ((O.inner t z (omega arith) k i b a).1
            (Memᴰ.cast (sym (joined_is n t (word_at table k) (word_at table k) (word_at table i) refl m)) (word_in table k b)))

    -- the word k, earlier than i, that goes with i from depth t + 1 on
    module _ (t i k : ℕ) (p : suc t < n) (b : i < length table) (f : k < i)
        (m : ending n (suc t) (word_at table k) ≡ ending n (suc t) (word_at table i)) where
      stays : (u : ℕ) → t < u → u ≤ n → ending n u (word_at table k) ≡ ending n u (word_at table i)
      stays u h l = ending_eq
          (subst (λ v. back n v (word_at table k).label ≡ back n v (word_at table i).label) (omega arith)
          (back_later n (u - suc t) (suc t) (word_at table k).label (word_at table i).label (omega arith) (ending_back m)))
          (ending_goal m)

      with_earlier : Ended n (symbol_at n table) c t i
      with_earlier = record {
        later = λ u h l. in_upto (step (symbol_at n table) c u) i k (step (symbol_at n table) c u i) f
            (λ r. edge (ended u i k (omega arith) (omega arith) b (omega arith) (stays u h (omega arith)) r)
            (sym (symbol_back n u (word_at table k).label (word_at table i).label l (ending_back (stays u h (omega arith)))) r)
            (ended (suc u) i k (omega arith) l b (omega arith) (stays (suc u) (omega arith) l) r));
        last = in_upto (c n) i k (c n i) f ((O.goals i k b (omega arith)).1 (sym (ending_goal m)));
      }

    pub ends : (t i : ℕ) → t < n → i < length table → (step (symbol_at n table) c t i ∈ upto (step (symbol_at n table) c t) i → ⊥)
        → c (suc t) i ∈ upto (c (suc t)) i → Ended n (symbol_at n table) c t i
    ends t i a b fresh old = go (dec_lt (suc t) n) (from_upto (c (suc t)) i (c (suc t) i) old)
      where
        differ : (F : From (c (suc t)) i (c (suc t) i)) → beginning n (suc t) (word_at table F.at) ≡ beginning n (suc t) (word_at table i)
            → ⊥
        differ F m =
            let j = F.at in
            let l : j < length table = omega (arith, F.below) in
            let x : c t i ≡ c t j =
            begun t i j a b l (beginning_eq (beginning_root m)
            (front_step n t (word_at table j).label (word_at table i).label a (beginning_front m))) in
            let y : symbol_at n table t i ≡ symbol_at n table t j =
            sym (symbol_front n t (word_at table j).label (word_at table i).label (beginning_front m)) in
            fresh (in_upto (step (symbol_at n table) c t) i j (step (symbol_at n table) c t i) F.below (λ r. edge (x r) (y r) (F.is r)))

        go : Dec (suc t < n) → From (c (suc t)) i (c (suc t) i) → Ended n (symbol_at n table) c t i
        go (no p) F = record {
          later = λ u h l. absurd (p (omega arith));
          last = subst (λ v. c v i ∈ upto (c v) i) (omega arith) old;
        }
        go (yes p) F =
            let j = F.at in
            let l : j < length table = omega (arith, F.below) in
            let K = index table (joined n (suc t) (word_at table j) (word_at table i))
            ((O.inner (suc t) (omega arith) p j i l b).0 (sym F.is)) in
            let f : K.at < i = comes_first G K.at i K.below
            (subst (λ v. Before v (word_at table i)) (sym K.is) (joined_first (suc t) j i F.below b (differ F))) in
            with_earlier t i K.at p b f (ap (ending n (suc t)) K.is ∙ joined_ending n (suc t) (word_at table j) (word_at table i))
