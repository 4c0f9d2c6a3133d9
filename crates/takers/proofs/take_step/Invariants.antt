-- `takers::take_step` writes the words that lead higher than all before them. The loop keeps the words noted so far, and for each key one
-- more than the highest vertex.
use lib.ListN.{length}
use Rattle.takers.specs.Inner.Takers.{row_edge}
use Rattle.takers.proofs.Scanning.{InTakers}
use Rattle.takers.proofs.take_step.Given as goal

abbrev pub invariant-loop-i : goal.invariant-loop-i
invariant-loop-i l = InTakers (row_edge l.map l.labels l.n l.t l.row) (length l.labels) l.initial.out l.at l.out l.high l.to l.i
