-- `takers::take_edges` takes one step after another: the loop keeps the first words of the steps so far.
use Rattle.takers.proofs.Steps.{InSteps}
use Rattle.takers.proofs.take_edges.Given as goal

abbrev pub invariant-loop-t : goal.invariant-loop-t
invariant-loop-t l = InSteps l.map l.labels l.n l.initial.out l.out l.counts l.at l.row l.t
