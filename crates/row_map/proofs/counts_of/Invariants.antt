-- `row_map::counts_of` sets the counts depth by depth: the loop keeps that those before t are set.
use Rattle.row_map.proofs.AllDepths.{Counting}
use Rattle.row_map.proofs.counts_of.Given as goal

abbrev pub invariant-loop-t : goal.invariant-loop-t
invariant-loop-t l = Counting l.dims l.counts l.t
