-- `passes::put_goals` goes over the goals. The loop's invariant: the places passed have what is left to pay in the states of their goals.
use Rattle.passes.specs.Inner.Loops.{GoalsRanked}
use Rattle.passes.proofs.put_goals.Given as goal

abbrev pub invariant-loop-g : goal.invariant-loop-g
invariant-loop-g l = GoalsRanked l.l l.left l.row l.g
