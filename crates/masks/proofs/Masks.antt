-- Masks are written block by block: a turn writes what `comparing::compare` finds for its block, which is right for every n that the
-- block's labels fit, and leaves the others.
use mathlib.Core.Path.{◌≡◌, refl, sym, ap, subst, ◌∙◌}
use mathlib.Core.List.{List}
use Prim.Native.Nat.{ℕ, ◌+◌, ◌^◌, ◌≤◌, ◌<◌}
use native.Mathlib.Nat.{not-suc-le-zero}
use native.Mathlib.Decide.{ℕ_discrete}
use native.Mathlib.Omega.{arith}
use lib.ListN.{length, get_or, set, length-set}
use lib.Seq.{get_or-set_same, get_or-set_other}
use Rattle.trellis.specs.Bounds.{most_symbols}
use Rattle.trellis.specs.Comparing.{differing, Compared}
use Rattle.masks.specs.Inner.Masks.{MasksAsked, MasksPut}

pub masks_start : {received erased labels masks : List ℕ} → MasksPut received erased labels masks masks 0
masks_start = record { long = refl; at = λ i n h. absurd (not-suc-le-zero h); kept = λ i h. refl }

pub masks_more : {received erased labels old new : List ℕ} {b mask distance : ℕ} → MasksAsked received erased labels old
    → MasksPut received erased labels old new b → b < length received
    → ((n : ℕ) → n ≤ most_symbols → get_or received b 0 < 4 ^ n → get_or labels b 0 < 4 ^ n
    → Compared n (get_or received b 0) (get_or erased b 0) (get_or labels b 0) mask distance)
    → MasksPut received erased labels old (set new b mask) (b + 1)
masks_more {received} {erased} {labels} {old} {new} {b} {mask} A I h C = record {
  long = length-set new b mask ∙ I.long;
  at = λ i n k. at i n k (ℕ_discrete i b);
  kept = λ i k. get_or-set_other new b i mask 0 (λ e. absurd (omega arith)) ∙ I.kept i (omega arith);
}
  where
    at : (i n : ℕ) → i < b + 1 → Dec (i ≡ b) → n ≤ most_symbols → get_or received i 0 < 4 ^ n → get_or labels i 0 < 4 ^ n
        → get_or (set new b mask) i 0 ≡ differing n (get_or received i 0) (get_or erased i 0) (get_or labels i 0)
    at i n k (yes e) few p q =
        let here : get_or (set new b mask) b 0 ≡ mask = get_or-set_same new b mask 0 (omega (arith, I.long, A.masks_long)) in
        ap (λ j. get_or (set new b mask) j 0) e ∙ here
        ∙ (C n few (subst (λ j. get_or received j 0 < 4 ^ n) e p) (subst (λ j. get_or labels j 0 < 4 ^ n) e q)).mask_is
        ∙ ap (λ j. differing n (get_or received j 0) (get_or erased j 0) (get_or labels j 0)) (sym e)
    at i n k (no e) few p q = get_or-set_other new b i mask 0 e ∙ I.at i n (omega arith) few p q

pub masks_end : {received erased labels old new : List ℕ} {b : ℕ} → MasksPut received erased labels old new b → b ≤ length received
    → length received ≤ b → MasksPut received erased labels old new (length received)
masks_end {received} {erased} {labels} {old} {new} {b} I h k =
    let e : b ≡ length received = omega arith in
    subst (MasksPut received erased labels old new) e I
