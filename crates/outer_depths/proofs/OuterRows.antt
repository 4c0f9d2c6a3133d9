-- The rows of the two outer depths: what the marks and their sums say is the rank of each state, and the two rows lie apart in the map.
use mathlib.Core.Path.{◌≡◌, sym, ap, subst, ◌∙◌}
use mathlib.Core.List.{List}
use Prim.Native.Nat.{ℕ, ◌+◌, ◌*◌, ◌<◌, ◌≤◌}
use native.Mathlib.Omega.{arith}
use native.Mathlib.Nat.{suc-mul, mul-le-mul_right, one-mul, zero-add}
use lib.ListN.{length, get_or, set, length-set}
use lib.Seq.{ext_get_or, get_or-set_same, get_or-set_other}
use Rattle.trellis.specs.Lists.{rank}
use Rattle.trellis.specs.Inner.Write.{Wrote}
use Rattle.trellis.proofs.Lists.{length_run, each_at}
use Rattle.trellis.proofs.Write.{wrote_length, wrote_at, wrote_before, wrote_behind}
use Rattle.layout.specs.Inner.States.{occurring, Few, StatesMarked, Summed, vertex_row}
use Rattle.layout.proofs.Marks.{numbered, StatesNumbered}
use Rattle.outer_depths.specs.Inner.Outer.{state_row, RowPut, OuterAsked, OuterPlaced, OuterPut}

row_is : {states ranks : List ℕ} {count : ℕ} → Few states → StatesNumbered states ranks count → vertex_row states ranks ≡ state_row states
row_is {states} {ranks} {count} F N =
    ext_get_or 0 (vertex_row states ranks) (state_row states) (length_run _ 0 (length states) ∙ sym (length_run _ 0 (length states)))
    (λ i h. let l : i < length states = omega (arith, length_run (λ i. get_or ranks (get_or states i 0) 0) 0 (length states)) in
    each_at (λ i. get_or ranks (get_or states i 0) 0) (length states) i 0 l ∙ N.is (get_or states i 0) (F.below i l)
    ∙ sym (each_at (λ i. rank (get_or states i 0) (occurring states)) (length states) i 0 l))

pub row_put : {states old new marks ranks : List ℕ} {place count : ℕ} → Few states → StatesMarked states (length states) marks
    → Summed marks ranks count
    → Wrote old place (vertex_row states ranks) new (place + length states) → RowPut states old place new marks count
row_put {states} {old} {new} {marks} {ranks} {place} {count} F M S W =
    let N = numbered F M S in
    record {
      marked = M;
      counted = N.counted;
      wrote = subst (λ vs. Wrote old place vs new (place + length states)) (row_is F N) W;
    }

-- ---- a row in the map

module _ {states old new marks : List ℕ} {place count : ℕ} (R : RowPut states old place new marks count)
    (room : place + length states ≤ length old) where
  size : length (state_row states) ≡ length states
  size = length_run (λ i. rank (get_or states i 0) (occurring states)) 0 (length states)

  pub row_at : (i : ℕ) → i < length states → get_or new (place + i) 0 ≡ rank (get_or states i 0) (occurring states)
  row_at i h = wrote_at R.wrote (omega (arith, size)) i (omega (arith, size))
      ∙ each_at (λ i. rank (get_or states i 0) (occurring states)) (length states) i 0 h

  pub row_before : (j : ℕ) → j < place → get_or new j 0 ≡ get_or old j 0
  row_before j h = wrote_before R.wrote j h

  pub row_behind : (j : ℕ) → place + length states ≤ j → get_or new j 0 ≡ get_or old j 0
  row_behind j h = wrote_behind R.wrote j (omega (arith, size))

  pub row_length : length new ≡ length old
  row_length = wrote_length R.wrote

-- ---- both rows

module _ {roots goals old inner : List ℕ} {n : ℕ} (A : OuterAsked roots goals n old inner) where
  one_row : length roots ≤ n * length roots
  one_row =
      let p : 1 * length roots ≤ n * length roots = mul-le-mul_right (length roots) A.some in
      omega (arith, one-mul (length roots))

  last_row : n * length roots + length roots ≤ length old
  last_row = omega (arith, suc-mul n (length roots), A.room)

  pub first_room : 0 + length roots ≤ length old
  first_room = omega (arith, one_row, last_row)

  pub last_fits : n * length roots ≤ length old
  last_fits = omega (arith, last_row)

  module _ {mid root_marks : List ℕ} {root_count : ℕ} (P : RowPut roots old 0 mid root_marks root_count) where
    pub last_room : n * length roots + length goals ≤ length mid
    last_room = omega (arith, last_row, A.aimed, row_length P first_room)

    module _ {new goal_marks : List ℕ} {goal_count : ℕ} (Q : RowPut goals mid (n * length roots) new goal_marks goal_count) where
      placed : OuterPlaced roots goals n old new
      placed = record {
        root_row = λ i h. row_before Q last_room i (omega (arith, one_row)) ∙ ap (λ k. get_or mid k 0) (sym (zero-add i))
            ∙ row_at P first_room i h;
        goal_row = λ i h. row_at Q last_room i (omega (arith, A.aimed));
        between = λ j a b. row_before Q last_room j b ∙ row_behind P first_room j (omega arith);
        behind = λ j h. row_behind Q last_room j (omega (arith, suc-mul n (length roots), A.aimed))
            ∙ row_behind P first_room j (omega (arith, suc-mul n (length roots), one_row));
        len = row_length Q last_room ∙ row_length P first_room;
      }

      pub put : OuterPut roots goals n old new inner root_marks goal_marks (set (set inner 0 root_count) n goal_count)
      put = record {
        placed = placed;
        roots_marked = P.marked;
        goals_marked = Q.marked;
        root_count =
            get_or-set_other (set inner 0 root_count) n 0 goal_count 0 (λ e. omega (arith, A.some))
            ∙ get_or-set_same inner 0 root_count 0 (omega (arith, A.nine)) ∙ P.counted;
        goal_count = get_or-set_same (set inner 0 root_count) n goal_count 0 (simp length-set (omega (arith, A.nine, A.short))) ∙ Q.counted;
        inner_count = λ t a b.
            get_or-set_other (set inner 0 root_count) n t goal_count 0 (λ e. omega arith)
            ∙ get_or-set_other inner 0 t root_count 0 (λ e. omega arith);
        nine = simp length-set A.nine;
      }
