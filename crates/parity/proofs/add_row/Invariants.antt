-- `parity::add_row` clears one column after another: the loop keeps which are done, and that the others are as before.
use Prim.Native.Nat.{◌≤◌}
use Rattle.rows.specs.Inner.Reduced.{cleared}
use Rattle.parity.proofs.Columns.{Mapped}
use Rattle.parity.proofs.add_row.Given as goal

abbrev pub invariant-loop-column : goal.invariant-loop-column
invariant-loop-column l = Mapped (cleared l.p l.z) l.initial.columns l.column-index l.columns × (l.column-index ≤ 16)
