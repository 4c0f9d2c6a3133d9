-- `gathering::gather` meets its contract. The loop's invariant: the array holds the beginnings up to depth t, and the edges that go on from
-- there begin at two places.
use Rattle.whole_section.proofs.Places.{counts_near, count_near, step_at, twice_near, pairs_near, symbols_near}
use Rattle.gathering.proofs.Depths.{roots_first, roots_level, depth_start, depth_next, depth_over, depth_all}
use borrow.Author.Rules.{rules, Fits-under}
use Rattle.gathering.proofs.gather.Goals as goal

pub overflow_sub-have : goal.overflow_sub-have
overflow_sub-have c = roots_first c.requires.0

pub first_level-requires : goal.first_level-requires
first_level-requires c = let p = c.requires in (roots_level p.0, p.1)

pub loop-t-init : goal.loop-t-init
loop-t-init c = depth_start c.requires.0 c.first_level.ensures

pub overflow_add-n : goal.overflow_add-n
overflow_add-n c = Fits-under _ _ 13 (counts_near c.requires.0) tt

pub overflow_add-n-in-loop-t : goal.overflow_add-n-in-loop-t
overflow_add-n-in-loop-t c = Fits-under _ _ 21 (count_near c.requires.0 c.loop-t-test.true) tt

pub grow_step-requires : goal.grow_step-requires
grow_step-requires c =
    let i = c.loop-t.invariant in
    (step_at c.requires.0 i.places c.loop-t-test.true c.number.ensures c.wide-count.ensures, i.room, i.long)

pub returns-in_err-have : goal.returns-in_err-have
returns-in_err-have c =
    rw c.from_residual.ensures (depth_over c.requires.0 c.loop-t.invariant c.loop-t-test.true c.number.ensures c.wide-count.ensures
    c.in_err-have.ensures)

pub overflow_mul-pairs : goal.overflow_mul-pairs
overflow_mul-pairs c = Fits-under _ _ 200000 (twice_near _ c.wide-count.ensures.1) tt

pub overflow_add-pairs : goal.overflow_add-pairs
overflow_add-pairs c =
    Fits-under _ _ 200000 (pairs_near c.requires.0 c.loop-t.invariant.places c.loop-t-test.true c.number.ensures
    c.wide-count.ensures) tt

pub overflow_add-symbols : goal.overflow_add-symbols
overflow_add-symbols c =
    Fits-under _ _ 200000 (symbols_near c.requires.0 c.loop-t.invariant.places c.loop-t-test.true c.number.ensures
    c.wide-count.ensures) tt

pub loop-t-preserved : goal.loop-t-preserved
loop-t-preserved c =
    depth_next c.requires.0 c.loop-t.invariant c.loop-t-test.true c.number.ensures c.wide-count.ensures
    c.in_ok-have.ensures

pub returns : goal.returns
returns c = depth_all c.requires.0 c.loop-t.invariant (search rules)
