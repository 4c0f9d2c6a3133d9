-- `row_arcs::arcs_of` takes row after row: the loop keeps that the edges of the rows so far are in front.
use Rattle.row_arcs.proofs.RowArcs.{InArcs}
use Rattle.row_arcs.proofs.arcs_of.Given as goal

abbrev pub invariant-loop-b : goal.invariant-loop-b
invariant-loop-b l = InArcs l.map l.row l.w l.rows l.cut l.dim l.arcs l.i l.b
