-- `edge_search::search_edge` meets its contract. The loop's invariant: the edges below `low` leave lower vertices, and those from `high`
-- on do not. The measure is what is between the two.
use Prim.Native.Nat.{◌-◌, ◌*◌}
use lib.ListN.{get_or}
use Rattle.edge_search.proofs.FirstEdges.{Halving}
use Rattle.edge_search.proofs.search_edge.Given as goal

abbrev pub invariant-loop-low : goal.invariant-loop-low
invariant-loop-low l = Halving (λ j. get_or l.pairs (2 * j) 0) l.count l.vertex l.low l.high

abbrev pub decreases-loop-low : goal.decreases-loop-low
decreases-loop-low l = l.high - l.low
