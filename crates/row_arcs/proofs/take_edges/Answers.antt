-- `row_arcs::take_edges` takes one step after another: the loop keeps the edges of the steps so far, and how many each has.
use mathlib.Core.Path.{refl}
use native.Mathlib.Omega.{arith}
use borrow.Author.Rules.{rules}
use Rattle.row_arcs.proofs.AllSteps.{edges_none, words_most, steps_below, step_asked, step_room, step_from, step_most}
use Rattle.row_arcs.proofs.AllSteps.{edges_next, edges_end}
use Rattle.row_arcs.proofs.take_edges.Goals as goal

pub loop-t-init : goal.loop-t-init
loop-t-init c = edges_none _ _ _ _ _ _ _ _ refl

pub overflow_mul-t : goal.overflow_mul-t
overflow_mul-t c = omega (arith, steps_below c.requires.0 c.loop-t.t (search rules))

pub take_step-end-requires : goal.take_step-end-requires
take_step-end-requires c = (step_asked c.requires.0 _ (search rules), step_room c.requires.0 c.loop-t.invariant (search rules) c.requires.1)

pub overflow_sub-counts : goal.overflow_sub-counts
overflow_sub-counts c = step_from c.requires.0 c.loop-t.invariant (search rules) c.take_step-end.ensures

pub overflow_cast-counts : goal.overflow_cast-counts
overflow_cast-counts c = omega (arith, step_most c.requires.0 c.loop-t.invariant (search rules) c.take_step-end.ensures, words_most c.requires.0)

pub loop-t-preserved : goal.loop-t-preserved
loop-t-preserved c = edges_next c.requires.0 c.loop-t.invariant (search rules) c.take_step-end.ensures

pub returns : goal.returns
returns c = edges_end c.loop-t.invariant (search rules)
