-- `usable::steps_right` meets its contract. The loop's invariant: all steps passed are right, and their edges are counted.
use Rattle.usable.proofs.Steps.{InSteps}
use Rattle.usable.proofs.steps_right.Given as goal

abbrev pub invariant-loop-t : goal.invariant-loop-t
invariant-loop-t l = InSteps l.l l.section.view.n l.before l.t
