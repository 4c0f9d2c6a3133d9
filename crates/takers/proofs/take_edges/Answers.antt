-- `takers::take_edges` takes one step after another: the loop keeps the first words of the steps so far.
use mathlib.Core.Path.{refl}
use native.Mathlib.Omega.{arith}
use borrow.Author.Rules.{rules}
use Rattle.takers.proofs.Steps.{steps_none, step_few, steps_more}
use Rattle.takers.proofs.take_edges.Goals as goal

pub loop-t-init : goal.loop-t-init
loop-t-init c = steps_none _ _ _ _ _ refl

pub overflow_cast-counts : goal.overflow_cast-counts
overflow_cast-counts c = omega (arith, step_few c.requires.0 c.loop-t.invariant (search rules) c.take_step-end.ensures, c.requires.0.words)

pub loop-t-preserved : goal.loop-t-preserved
loop-t-preserved c = steps_more c.requires.0 c.loop-t.invariant (search rules) c.take_step-end.ensures
