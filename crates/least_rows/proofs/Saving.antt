-- One row saved. Its places begin at most_words · t and are fewer than most_words, so that those of deeper depths, which come behind, stay as
-- they are.
use mathlib.Core.Path.{◌≡◌, refl, sym, subst, ◌∙◌}
use mathlib.Core.List.{List}
use Prim.Native.Nat.{ℕ, ◌+◌, ◌*◌, ◌/◌, ◌%◌, ◌≤◌, ◌<◌}
use native.Mathlib.Nat.{not-suc-le-zero}
use native.Mathlib.Decide.{ℕ_discrete}
use native.Mathlib.Omega.{arith}
use lib.ListN.{get_or, set, length-set}
use lib.Seq.{get_or-set_same, get_or-set_other}
use Rattle.trellis.specs.Bounds.{most_words}
use Rattle.paths.specs.Inner.Ranked.{distance_unit}
use Rattle.lowering.specs.Inner.Rows.{side}
use Rattle.sweep.proofs.Sweeping.{side_even, side_odd}
use Rattle.least_rows.specs.Inner.Rows.{rows_long, row_at, SaveAsked, RowSaved}

-- ---- the loop over the row

pub save_start : {t count : ℕ} {row rows : List ℕ} → SaveAsked t count row rows → RowSaved t row rows rows 0
save_start A = record { long = A.long; saved = λ u h. absurd (not-suc-le-zero h); kept = λ i h. refl }

-- where the cost of rank v goes
save_place : {t count v : ℕ} {row rows : List ℕ} → SaveAsked t count row rows → v < count → most_words * t + v < rows_long
save_place A h = omega (arith, A.deep, A.few)

pub save_more : {t count v x : ℕ} {row old rows : List ℕ} → SaveAsked t count row old → RowSaved t row old rows v → v < count
    → x ≡ get_or row v 0 / distance_unit → RowSaved t row old (set rows (most_words * t + v) x) (v + 1)
save_more {t} {count} {v} {x} {row} {old} {rows} A I h e = record {
  long = simp length-set I.long;
  saved = saved;
  kept = λ i k. get_or-set_other rows (most_words * t + v) i x 0 (λ z. absurd (omega (arith, A.few))) ∙ I.kept i k;
}
  where
    saved : (u : ℕ) → u < v + 1 → row_at (set rows (most_words * t + v) x) t u ≡ get_or row u 0 / distance_unit
    saved u k = go (ℕ_discrete u v)
      where
        go : Dec (u ≡ v) → row_at (set rows (most_words * t + v) x) t u ≡ get_or row u 0 / distance_unit
        go (yes z) =
            subst (λ w. row_at (set rows (most_words * t + v) x) t w ≡ get_or row w 0 / distance_unit) (sym z)
            (get_or-set_same rows (most_words * t + v) x 0 (omega (arith, save_place A h, I.long)) ∙ e)
        go (no z) =
            get_or-set_other rows (most_words * t + v) (most_words * t + u) x 0 (λ w. z (omega arith)) ∙ I.saved u (omega arith)

pub save_end : {t count v : ℕ} {row old rows : List ℕ} → RowSaved t row old rows v → count ≤ v → RowSaved t row old rows count
save_end I h = record { long = I.long; saved = λ u k. I.saved u (omega arith); kept = I.kept }

-- ---- the two arrays

module _ {t count : ℕ} (even odd : List ℕ) {rows : List ℕ} where
  pub asked_even : t % 2 ≡ 0 → SaveAsked t count (side t even odd) rows → SaveAsked t count even rows
  asked_even e A = subst (λ r. SaveAsked t count r rows) (side_even t even odd e) A

  pub asked_odd : (t % 2 ≡ 0 → ⊥) → SaveAsked t count (side t even odd) rows → SaveAsked t count odd rows
  asked_odd e A = subst (λ r. SaveAsked t count r rows) (side_odd t even odd e) A

  module _ {new : List ℕ} where
    pub saved_even : t % 2 ≡ 0 → RowSaved t even rows new count → RowSaved t (side t even odd) rows new count
    saved_even e R = subst (λ r. RowSaved t r rows new count) (sym (side_even t even odd e)) R

    pub saved_odd : (t % 2 ≡ 0 → ⊥) → RowSaved t odd rows new count → RowSaved t (side t even odd) rows new count
    saved_odd e R = subst (λ r. RowSaved t r rows new count) (sym (side_odd t even odd e)) R
