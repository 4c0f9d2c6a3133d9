-- `gathering::gather` meets its contract. The loop's invariant: the array holds the beginnings up to depth t, and the edges that go on from
-- there begin at two places.
use Rattle.gathering.proofs.Depths.{Depth}
use Rattle.gathering.proofs.gather.Given as goal

abbrev pub invariant-loop-t : goal.invariant-loop-t
invariant-loop-t l = Depth l.s l.codes l.have l.pairs l.symbols l.t
