-- `row_arcs::take_edges` takes one step after another: the loop keeps the edges of the steps so far, and how many each has.
use Rattle.row_arcs.proofs.AllSteps.{InEdges}
use Rattle.row_arcs.proofs.take_edges.Given as goal

abbrev pub invariant-loop-t : goal.invariant-loop-t
invariant-loop-t l = InEdges l.map l.w l.rows l.bits l.n l.dims l.initial.out l.out l.counts l.at l.t
