-- `row_arcs::arcs_of` takes row after row: the loop keeps that the edges of the rows so far are in front.
use mathlib.Core.Path.{refl}
use borrow.Author.Rules.{rules}
use Rattle.row_arcs.proofs.RowArcs.{arcs_none, arc_small, arcs_next, arcs_end}
use Rattle.row_arcs.proofs.arcs_of.Goals as goal

pub loop-b-init : goal.loop-b-init
loop-b-init c = arcs_none _ _ _ _ _ _ refl

pub edge_number-requires : goal.edge_number-requires
edge_number-requires c = (c.requires.short, arc_small c.requires c.loop-b.invariant (search rules) c.bit_at.ensures)

pub loop-b-preserved : goal.loop-b-preserved
loop-b-preserved c = arcs_next c.requires c.loop-b.invariant (search rules) c.bit_at.ensures c.edge_number.ensures

pub returns : goal.returns
returns c = arcs_end c.loop-b.invariant (search rules)
