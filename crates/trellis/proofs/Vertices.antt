-- Our numbering does what document 01 asks: words share a vertex number at depth 0 exactly if they share the root, at depth n exactly if
-- they share the goal, and at an inner depth of a rectangular table exactly if the one's beginning followed by the other's ending is a
-- word. Equal ranks are of equal keys; and sharing is an equivalence where the table is rectangular, so words that share have one first
-- word.
use mathlib.Core.Path.{◌≡◌, refl, sym, ap, ap₂, subst, ◌∙◌}
use mathlib.Core.Logic.{◌↔◌}
use mathlib.Core.List.{List}
use Prim.Native.Nat.{ℕ, ◌≤◌, ◌<◌}
use native.Mathlib.Omega.{arith}
use native.Mathlib.Decide.{dec_lt}
use lib.ListN.{length, get_or}
use lib.Dec.{T, ltb, eqb, eqb→eq, eqb_refl}
use Rattle.trellis.specs.Lists.{◌∈◌, first, rank}
use Rattle.trellis.specs.Word.{Word, word_at, joined, RectangularAt, Rectangular}
use Rattle.trellis.specs.Own.{shares, first_sharing, key_by, key, keys, vertex_of, vertex_count}
use Rattle.trellis.proofs.Bools.{is_true, is_false}
use Rattle.trellis.proofs.Lists.{in_yes, in_of, in_each, First, first_ok}
use Rattle.trellis.proofs.Ascending.{numbers, ascends, in_ascending, ranked, rank_less}
use Rattle.trellis.proofs.Words.{word_in, same_yes, same_self, joined_self, joined_turn, joined_chain}

-- c t i is the vertex of word i at depth t: any such numbering has our section's vertices
pub record Numbering (n : ℕ) (table : List Word) (c : ℕ → ℕ → ℕ) : Type 0 where
  pub roots : (i j : ℕ) → i < length table → j < length table → (c 0 i ≡ c 0 j) ↔ ((word_at table i).root ≡ (word_at table j).root)
  pub inner : (t : ℕ) → 0 < t → t < n → (i j : ℕ) → i < length table → j < length table
      → (c t i ≡ c t j) ↔ (joined n t (word_at table i) (word_at table j) ∈ table)
  pub goals : (i j : ℕ) → i < length table → j < length table → (c n i ≡ c n j) ↔ ((word_at table i).goal ≡ (word_at table j).goal)

-- ---- vertices are keys

module _ (n : ℕ) (table : List Word) where
  pub key_root : (i : ℕ) → key n table 0 i ≡ (word_at table i).root
  unfolding key
  key_root i = refl

  pub key_goal : (i : ℕ) → 0 < n → key n table n i ≡ (word_at table i).goal
  unfolding key
  key_goal i h = ap₂ (λ a b. key_by n table a b n i)
      (is_false (eqb n 0) (λ t. let e = eqb→eq n 0 t in omega arith)) (is_true (eqb n n) (eqb_refl n))

  pub key_inner : (t i : ℕ) → 0 < t → t < n → key n table t i ≡ first_sharing n table t i
  unfolding key
  key_inner t i p q = ap₂ (λ a b. key_by n table a b t i)
      (is_false (eqb t 0) (λ x. let e = eqb→eq t 0 x in omega arith)) (is_false (eqb t n) (λ x. let e = eqb→eq t n x in omega arith))

  pub key_in : (t i : ℕ) → i < length table → key n table t i ∈ keys n table t
  unfolding keys
  key_in t i h = in_ascending ltb numbers _ _ (in_each (key n table t) (length table) i _ h refl)

  pub vertex_below : (t i : ℕ) → i < length table → vertex_of n table t i < vertex_count n table t
  unfolding vertex_of vertex_count keys
  vertex_below t i h = (ranked (keys n table t) (key n table t i) (ascends ltb numbers _) (key_in t i h)).below

  -- the key that a vertex number stands for
  pub key_at : (t i : ℕ) → i < length table → get_or (keys n table t) (vertex_of n table t i) 0 ≡ key n table t i
  unfolding vertex_of keys
  key_at t i h = (ranked (keys n table t) (key n table t i) (ascends ltb numbers _) (key_in t i h)).is

  pub vertex_key : (t i j : ℕ) → i < length table → j < length table → (vertex_of n table t i ≡ vertex_of n table t j)
      ↔ (key n table t i ≡ key n table t j)
  unfolding vertex_of
  vertex_key t i j a b =
      (λ e. sym (key_at t i a) ∙ ap (λ v. get_or (keys n table t) v 0) e ∙ key_at t j b, λ e. ap (λ k. rank k (keys n table t)) e)

  -- vertices are numbered by ascending key
  pub vertex_less : (t i j : ℕ) → i < length table → key n table t i < key n table t j → vertex_of n table t i < vertex_of n table t j
  unfolding vertex_of
  vertex_less t i j a h = rank_less (keys n table t) (key n table t i) (key n table t j) (key_in t i a) h

-- ---- sharing at an inner depth

module _ (n : ℕ) (table : List Word) (t : ℕ) where
  pub shares_yes : (i j : ℕ) → T (shares n table t i j) → joined n t (word_at table i) (word_at table j) ∈ table
  unfolding shares
  shares_yes i j s = in_yes _ same_yes same_self _ table s

  pub shares_of : (i j : ℕ) → joined n t (word_at table i) (word_at table j) ∈ table → T (shares n table t i j)
  unfolding shares
  shares_of i j m = in_of _ same_yes same_self _ table m

  pub first_le_lem : (i : ℕ) → first_sharing n table t i ≤ i
  unfolding first_sharing
  first_le_lem i = (first_ok (λ j. shares n table t j i) i).most

  pub first_least : (i j : ℕ) → T (shares n table t j i) → first_sharing n table t i ≤ j
  unfolding first_sharing
  first_least i j s = go (dec_lt j (first (λ k. shares n table t k i) i))
    where
      go : Dec (j < first (λ k. shares n table t k i) i) → first (λ k. shares n table t k i) i ≤ j
      go (yes p) = absurd ((first_ok (λ k. shares n table t k i) i).miss j p s)
      go (no p) = omega arith

  pub first_shares : (i : ℕ) → i < length table → T (shares n table t (first_sharing n table t i) i)
  unfolding first_sharing
  first_shares i h = go (first_ok (λ j. shares n table t j i) i) (dec_lt (first (λ j. shares n table t j i) i) i)
    where
      go : First (λ j. shares n table t j i) i (first (λ j. shares n table t j i) i) → Dec (first (λ j. shares n table t j i) i < i)
          → T (shares n table t (first (λ j. shares n table t j i) i) i)
      go F (yes p) = F.hit p
      go F (no p) =
          let e : i ≡ first (λ j. shares n table t j i) i = omega (arith, F.most) in
          subst (λ z. T (shares n table t z i)) e (shares_of i i (joined_self n t table (word_at table i) (word_in table i h)))

  module _ (R : RectangularAt n t table) where
    share_turn : (i j : ℕ) → i < length table → j < length table → T (shares n table t i j) → T (shares n table t j i)
    share_turn i j a b s =
        shares_of j i (joined_turn n t table R (word_at table i) (word_at table j) (word_in table i a) (word_in table j b) (shares_yes i j s))

    share_chain : (i j k : ℕ) → j < length table → T (shares n table t i j) → T (shares n table t j k) → T (shares n table t i k)
    share_chain i j k b s r =
        shares_of i k (joined_chain n t table R (word_at table i) (word_at table j) (word_at table k) (word_in table j b) (shares_yes i j s)
        (shares_yes j k r))

    -- words that share have one first word
    pub first_same : (i j : ℕ) → i < length table → j < length table → T (shares n table t i j)
        → first_sharing n table t i ≡ first_sharing n table t j
    first_same i j a b s =
        let x = first_least j (first_sharing n table t i) (share_chain (first_sharing n table t i) i j a (first_shares i a) s) in
        let y = first_least i (first_sharing n table t j)
        (share_chain (first_sharing n table t j) j i b (first_shares j b) (share_turn i j a b s)) in
        omega arith

    pub same_first : (i j : ℕ) → i < length table → j < length table → first_sharing n table t i ≡ first_sharing n table t j
        → T (shares n table t i j)
    same_first i j a b e =
        let l = first_le_lem j in
        let f : first_sharing n table t j < length table = omega arith in
        let s : T (shares n table t (first_sharing n table t j) i) = subst (λ z. T (shares n table t z i)) e (first_shares i a) in
        share_chain i (first_sharing n table t j) j f (share_turn (first_sharing n table t j) i f a s) (first_shares j b)

-- ---- the numbering

iff_chain : {A B C : Type 0} → A ↔ B → B ↔ C → A ↔ C
iff_chain p q = (λ a. q.0 (p.0 a), λ c. p.1 (q.1 c))

keys_iff : {a b c d : ℕ} → a ≡ c → b ≡ d → (a ≡ b) ↔ (c ≡ d)
keys_iff p q = (λ e. sym p ∙ e ∙ q, λ e. p ∙ e ∙ sym q)

pub own_numbering : (n : ℕ) (table : List Word) → 0 < n → Rectangular n table → Numbering n table (vertex_of n table)
own_numbering n table h R = record {
  roots = λ i j a b. iff_chain (vertex_key n table 0 i j a b) (keys_iff (key_root n table i) (key_root n table j));
  inner = λ t p q i j a b. iff_chain (vertex_key n table t i j a b)
      (iff_chain (keys_iff (key_inner n table t i p q) (key_inner n table t j p q)) (
        λ e. shares_yes n table t i j (same_first n table t (R t p q) i j a b e),
        λ m. first_same n table t (R t p q) i j a b (shares_of n table t i j m),
      ));
  goals = λ i j a b. iff_chain (vertex_key n table n i j a b) (keys_iff (key_goal n table i h) (key_goal n table j h));
}
