-- `parity::syndrome` adds up one column after another: the loop keeps that what is summed up and what is left make the whole sum.
use Prim.Native.Nat.{◌≤◌}
use Rattle.parity.proofs.Columns.{Summed}
use Rattle.parity.proofs.syndrome.Given as goal

abbrev pub invariant-loop-column : goal.invariant-loop-column
invariant-loop-column l = Summed l.columns l.x l.column-index l.sum l.rest × (l.column-index ≤ 16)
