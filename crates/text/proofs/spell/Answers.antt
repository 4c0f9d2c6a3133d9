-- `text::spell` finds the digits from the last one on. The loop's invariant: the digits of the number are those of what is left of it and
-- those behind. The measure is the place.
use native.Mathlib.Omega.{arith}
use Rattle.text.proofs.Spelling.{left_all, left_room, left_next, left_none}
use borrow.Author.Rules.{rules}
use Rattle.text.proofs.spell.Goals as goal

pub loop-rest-init : goal.loop-rest-init
loop-rest-init c = left_all (search rules) (search rules)

pub bounds-out-at : goal.bounds-out-at
bounds-out-at c = let l = c.loop-rest in omega (arith, l.invariant.at_small)

pub overflow_sub-at : goal.overflow_sub-at
overflow_sub-at c = left_room c.loop-rest.invariant c.loop-rest-test.true

pub loop-rest-smaller : goal.loop-rest-smaller
loop-rest-smaller c = omega (arith, left_room c.loop-rest.invariant c.loop-rest-test.true)

pub loop-rest-preserved : goal.loop-rest-preserved
loop-rest-preserved c = left_next c.loop-rest.invariant c.loop-rest-test.true c.last_digit.ensures

pub bounds-out-at-2 : goal.bounds-out-at-2
bounds-out-at-2 c = let l = c.loop-rest in omega (arith, l.invariant.at_small)

pub returns : goal.returns
returns c = left_none c.loop-rest.invariant c.loop-rest-test.false c.last_digit-2.ensures
