-- `edge_search::search_edge` meets its contract. The loop's invariant: the edges below `low` leave lower vertices, and those from `high`
-- on do not. The measure is what is between the two.
use native.Mathlib.Omega.{arith}
use Rattle.edge_search.proofs.FirstEdges.{halving_start, halving_up, halving_down, halving_done}
use Rattle.edge_search.proofs.search_edge.Goals as goal

pub loop-low-init : goal.loop-low-init
loop-low-init c = halving_start _ _ _

pub loop-low-preserved-then-from-vertex : goal.loop-low-preserved-then-from-vertex
loop-low-preserved-then-from-vertex c =
    halving_up c.loop-low.invariant c.loop-low-test.true c.requires.rise
    (omega (arith, c.from.ensures, c.if-from-vertex.true))

pub loop-low-preserved : goal.loop-low-preserved
loop-low-preserved c =
    halving_down c.loop-low.invariant c.loop-low-test.true c.requires.rise
    (omega (arith, c.from.ensures, c.if-from-vertex.false))

pub returns : goal.returns
returns c = halving_done c.loop-low.invariant c.loop-low-test.false
