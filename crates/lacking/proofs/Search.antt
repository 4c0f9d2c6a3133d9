-- The search over i, j, k keeps that no triple before the present one passes. A first triple that passes is what the nested searches of the
-- definition find: each search over a range gives the first place where there is something, and so its triple.
use mathlib.Core.Path.{◌≡◌, refl, sym, ap, ◌∙◌}
use mathlib.Core.Bool.{Bool}
use mathlib.Core.List.{List}
use Prim.Native.Nat.{ℕ, zero, suc, ◌+◌, ◌≤◌, ◌<◌}
use native.Mathlib.Omega.{arith}
use Rattle.std.specs.Prelude.{Option, Some, None}
use native.Mathlib.Decide.{ℕ_discrete}
use lib.ListN.{length}
use Rattle.trellis.specs.Word.{Word}
use Rattle.trellis.specs.Witness.{found, nothing, refutes, or_else, when, first_of, over_k, over_j, witness_at}
use Rattle.trellis.specs.Witness as trellis
use Rattle.depth_runs.proofs.Places.{upto_next}
use Rattle.lacking.specs.Inner.Search.{as_witness, NoneAt, NoneFrom, NoneBefore, FirstAt, FirstIn}
use Rattle.lacking.specs.declared.Triple.{Triple}

-- ---- the loop over i

pub before_none : (test : ℕ → ℕ → ℕ → Bool) (w : ℕ) → NoneBefore test w 0
before_none test w = record { le = omega arith; none = λ x h. absurd (omega arith) }

pub before_more : {test : ℕ → ℕ → ℕ → Bool} {w i : ℕ} → NoneBefore test w i → i < w → NoneFrom test w i → NoneBefore test w (i + 1)
before_more {test} {w} {i} c h n = record { le = omega arith; none = upto_next (NoneFrom test w) i c.none n }

pub none_left : {test : ℕ → ℕ → ℕ → Bool} {w i : ℕ} → NoneBefore test w i → w ≤ i → FirstIn test w None
none_left {test} {w} {i} c h = record { le = omega arith; none = λ x l. c.none x (omega arith) }

-- ---- one test for another

pub first_cong : (p q : ℕ → ℕ → ℕ → Bool) (w : ℕ) → ((i j k : ℕ) → i < w → j < w → k < w → p i j k ≡ q i j k) → (r : Option Triple)
    → FirstIn p w r → FirstIn q w r
first_cong p q w e (Some x) F = at_cong x.i x.j x.k F
  where
    at_cong : (i j k : ℕ) → FirstAt p w i j k → FirstAt q w i j k
    at_cong i j k F =
        let a = F.below.0 in
        let b = F.below.1 in
        let c = F.below.2 in
        record {
          below = F.below;
          passes = sym (e i j k a b c) ∙ F.passes;
          first_i = λ x h y l z m. sym (e x y z (omega arith) l m) ∙ F.first_i x h y l z m;
          first_j = λ y h z m. sym (e i y z a (omega arith) m) ∙ F.first_j y h z m;
          first_k = λ z h. sym (e i j z a b (omega arith)) ∙ F.first_k z h;
        }
first_cong p q w e None F = record { le = F.le; none = λ x h y l z m. sym (e x y z h l m) ∙ F.none x h y l z m }

-- ---- the searches of the definition

search_nothing : (count low : ℕ) (f : ℕ → trellis.Witness) → ((m : ℕ) → low ≤ m → m < low + count → f m ≡ nothing)
    → first_of count low f ≡ nothing
unfolding first_of
search_nothing zero low f h = refl
search_nothing (suc count) low f h =
    ap (λ v. or_else v (first_of count (suc low) f)) (h low (omega arith) (omega arith))
    ∙ search_nothing count (suc low) f (λ m a b. h m (omega arith) (omega arith))

search_found : (count low place : ℕ) (f : ℕ → trellis.Witness) (t i j k : ℕ) → low ≤ place → place < low + count → f place ≡ found t i j k
    → ((m : ℕ) → low ≤ m → m < place → f m ≡ nothing) → first_of count low f ≡ found t i j k
unfolding first_of
search_found zero low place f t i j k a b e h = absurd (omega arith)
search_found (suc count) low place f t i j k a b e h =
    go (ℕ_discrete low place) (λ l. search_found count (suc low) place f t i j k l (omega arith) e (λ m p q. h m (omega arith) q))
  where
    go : Dec (low ≡ place) → (suc low ≤ place → first_of count (suc low) f ≡ found t i j k)
        → or_else (f low) (first_of count (suc low) f) ≡ found t i j k
    go (yes d) r = ap (λ v. or_else v (first_of count (suc low) f)) (ap f d ∙ e)
    go (no d) r = ap (λ v. or_else v (first_of count (suc low) f)) (h low (omega arith) (omega arith)) ∙ r (omega arith)

module _ (n : ℕ) (table : List Word) (t : ℕ) where
  none_k : (i j : ℕ) → NoneAt (refutes n table t) (length table) i j → over_k n table t i j ≡ nothing
  unfolding over_k
  none_k i j h = search_nothing (length table) 0 _ (λ k a b. ap (λ v. when v (found t i j k)) (h k (omega arith)))

  none_j : (i : ℕ) → NoneFrom (refutes n table t) (length table) i → over_j n table t i ≡ nothing
  unfolding over_j
  none_j i h = search_nothing (length table) 0 _ (λ j a b. none_k i j (h j (omega arith)))

  -- the first triple that refutes is the definition's witness
  pub first_is : (r : Option Triple) → FirstIn (refutes n table t) (length table) r → as_witness t r ≡ witness_at n table t
  unfolding witness_at over_j over_k
  first_is (Some x) F =
      let i : ℕ = x.i in
      let j : ℕ = x.j in
      let k : ℕ = x.k in
      let at_k = search_found (length table) 0 k (λ k. when (refutes n table t i j k) (found t i j k)) t i j k (omega arith)
      (omega (arith, F.below.2))
      (ap (λ v. when v (found t i j k)) F.passes) (λ z a b. ap (λ v. when v (found t i j z)) (F.first_k z b)) in
      let at_j = search_found (length table) 0 j (over_k n table t i) t i j k (omega arith) (omega (arith, F.below.1)) at_k
      (λ y a b. none_k i y (F.first_j y b)) in
      sym (search_found (length table) 0 i (over_j n table t) t i j k (omega arith) (omega (arith, F.below.0)) at_j
      (λ x a b. none_j x (F.first_i x b)))
  first_is None F = sym (search_nothing (length table) 0 (over_j n table t) (λ x a b. none_j x (F.none x (omega arith))))
