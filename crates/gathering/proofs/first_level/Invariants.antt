-- `gathering::first_level` meets its contract. The loop's invariant: the vertices passed are put.
use Rattle.gathering.proofs.Growing.{Rooted}
use Rattle.gathering.proofs.first_level.Given as goal

abbrev pub invariant-loop-v : goal.invariant-loop-v
invariant-loop-v l = Rooted l.s l.at l.count l.codes l.v
