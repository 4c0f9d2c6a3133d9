-- `following::follow` meets its contract. The loop's invariant: the array has the partners of the vertices of depth t, and
-- the edges of the step behind it begin at two places.
use Rattle.following.proofs.Depths.{Depth}
use Rattle.following.proofs.follow.Given as goal

abbrev pub invariant-loop-t : goal.invariant-loop-t
invariant-loop-t l = Depth l.a l.b l.matched l.pairs l.symbols l.t
