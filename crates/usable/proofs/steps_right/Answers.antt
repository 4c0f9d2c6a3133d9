-- `usable::steps_right` meets its contract. The loop's invariant: all steps passed are right, and their edges are counted.
use native.Mathlib.Nat.{le_of_lt}
use native.Mathlib.Omega.{arith}
use Rattle.edges.proofs.Tests.{passed_fails, passed_all}
use Rattle.section_file.proofs.Seen.{near_of, before_in}
use Rattle.usable.proofs.Steps.{steps_start, steps_next}
use borrow.Author.Rules.{rules}
use mathlib.Core.Path.{ap}
use mathlib.Core.Bool.{not}
use Rattle.usable.proofs.steps_right.Goals as goal

pub loop-t-init : goal.loop-t-init
loop-t-init c = steps_start _ _

pub returns-then-not-step_right : goal.returns-then-not-step_right
returns-then-not-step_right c = passed_fails c.loop-t.invariant.passed c.loop-t-test.true c.step_right.ensures (ap not c.if-not-step_right.true)

pub overflow_add-before : goal.overflow_add-before
overflow_add-before c =
    let p = c.requires in
    let N = near_of p in
    let b = before_in p (le_of_lt c.loop-t-test.true) c.loop-t.invariant.before_is in
    record { fits = omega arith }

pub loop-t-preserved : goal.loop-t-preserved
loop-t-preserved c =
    steps_next c.requires c.loop-t.invariant c.loop-t-test.true c.step_right.ensures (ap not c.if-not-step_right.false)
    c.number.ensures c.from-before.ensures

pub returns : goal.returns
returns c = passed_all c.loop-t.invariant.passed (search rules)
