-- `parity::check` takes up row after row: the loop keeps that none of them is a sum of those before it, and that the columns are their
-- check. A row of syndrome 0 is the first that is such a sum.
use Prim.Native.Nat.{◌≤◌}
use lib.ListN.{length}
use Rattle.rows.specs.Inner.Growing.{Grown}
use Rattle.parity.proofs.check.Given as goal

abbrev pub invariant-loop-j : goal.invariant-loop-j
invariant-loop-j l = Grown 16 l.rows l.j l.columns × (l.j ≤ length l.rows)
