-- `gathering::first_level` meets its contract. The loop's invariant: the vertices passed are put.
use native.Mathlib.Omega.{arith}
use Rattle.gathering.proofs.Growing.{rooted_start, rooted_next, rooted_all}
use borrow.Author.Rules.{rules}
use Rattle.gathering.proofs.first_level.Goals as goal

pub loop-v-init : goal.loop-v-init
loop-v-init c = rooted_start _ _ _ c.requires.1

pub overflow_mul-codes-in-loop-v : goal.overflow_mul-codes-in-loop-v
overflow_mul-codes-in-loop-v c =
    let p = c.requires in
    record { fits = omega (arith, p.0.small c.loop-v.v c.loop-v-test.true, p.0.few, c.from.ensures) }

pub loop-v-preserved : goal.loop-v-preserved
loop-v-preserved c = rooted_next c.loop-v.invariant c.requires.0 c.loop-v-test.true c.from.ensures

pub returns : goal.returns
returns c = rooted_all c.loop-v.invariant (search rules)
