-- The edges of a step. The check of the edges that the rows take has reduced rows, no more than there are rows; all sums of these, by
-- rising choice, are the sums of the edges in order.
use mathlib.Core.Path.{◌≡◌, sym, ap, subst, ◌∙◌}
use mathlib.Core.List.{List}
use Prim.Native.Nat.{ℕ, ◌^◌, ◌≤◌}
use native.Mathlib.Omega.{arith}
use lib.ListN.{length, take}
use lib.Pow.{pow_mono}
use Rattle.trellis.specs.Lists.{each}
use Rattle.trellis.specs.Inner.Write.{Wrote}
use Rattle.rows.specs.Sums.{sum_of, choices, sums}
use Rattle.rows.specs.Inner.Reduced.{Narrow, Spans, reduced_rows}
use Rattle.rows.proofs.Growing.{spans_sums}
use Rattle.rows.proofs.Spanning.{reduced_most}
use Rattle.parity.specs.Inner.Front.{Front}
use Rattle.parity.specs.Inner.Steps.{Basis}
use Rattle.row_arcs.specs.Inner.Arcs.{arcs_of, StepAsked}
use Rattle.row_arcs.proofs.RowArcs.{arcs_length}

module _ {map : List ℕ} {row w : ℕ} {rows : List ℕ} {cut dim : ℕ} (A : StepAsked map row w rows cut dim)
    {arcs : List ℕ} (F : Front (arcs_of map row w rows cut dim) arcs) where
  abbrev taken : List ℕ
  taken = arcs_of map row w rows cut dim

  are_taken : take (length rows) arcs ≡ taken
  are_taken = ap (λ k. take k arcs) (sym (arcs_length map row w rows cut dim)) ∙ F.are

  pub arcs_fit : length rows ≤ length arcs
  arcs_fit = omega (arith, A.few, F.sixteen)

  pub arcs_narrow : Narrow 16 (take (length rows) arcs)
  arcs_narrow = subst (Narrow 16) (sym are_taken) A.narrow

  module _ {columns base given : List ℕ} {count : ℕ} (S : Spans 16 (take (length rows) arcs) columns) (B : Basis columns base count)
      (lent : given ≡ take count base) where
    given_are : given ≡ reduced_rows columns
    given_are = lent ∙ B.are

    spans : Spans 16 taken columns
    spans = subst (λ l. Spans 16 l columns) are_taken S

    few : length given ≤ length rows
    few = omega (arith, ap length given_are, reduced_most spans A.narrow, arcs_length map row w rows cut dim)

    pub base_few : length given ≤ 10
    base_few = omega (arith, few, A.few)

    pub base_room : 2 ^ length given ≤ w
    base_room = omega (arith, A.words, pow_mono {i = length given} {j = length rows} few)

    pub step_sums_lem : {out new : List ℕ} {at end : ℕ} → Wrote out at (each (sum_of given) (choices given)) new end
        → Wrote out at (sums taken) new end
    step_sums_lem {out} {new} {at} {end} W = subst (λ vs. Wrote out at vs new end)
        (ap (λ l. each (sum_of l) (choices l)) given_are ∙ sym (spans_sums spans A.narrow)) W
