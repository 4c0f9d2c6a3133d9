-- `following::follow` meets its contract. The loop's invariant: the array has the partners of the vertices of depth t, and
-- the edges of the step behind it begin at two places.
use borrow.Author.Rules.{rules, Fits-under}
use Rattle.whole_section.proofs.Places.{counts_near, count_near, twice_near, pairs_near, symbols_near}
use Rattle.following.proofs.Depths.{roots_order, roots_few, depth_start, step_here, step_there, single, single_back, partners}
use Rattle.following.proofs.Depths.{depth_stuck, depth_next, depth_last, before_last, last_step, next_inner, at_last, last_inner}
use Rattle.following.proofs.Depths.{last_count}
use Rattle.following.proofs.follow.Goals as goal

pub overflow_sub-at : goal.overflow_sub-at
overflow_sub-at c = roots_order c.requires.0

pub own_partners-matched-requires : goal.own_partners-matched-requires
own_partners-matched-requires c = roots_few c.requires.0

pub loop-t-init : goal.loop-t-init
loop-t-init c = depth_start c.requires.0 c.own_partners-matched.ensures

pub overflow_add-n : goal.overflow_add-n
overflow_add-n c = Fits-under _ _ 13 (counts_near c.requires.0.here) tt

pub overflow_add-n-in-loop-t : goal.overflow_add-n-in-loop-t
overflow_add-n-in-loop-t c = Fits-under _ _ 21 (count_near c.requires.0.here (before_last c.loop-t-test.true)) tt

pub match_step-requires : goal.match_step-requires
match_step-requires c =
    let B = c.requires.0 in let i = c.loop-t.invariant in
    let y = c.number.ensures in let n = c.wide-count.ensures in
    (step_here B i y n, step_there B i y n, single B i y n (next_inner B c.loop-t-test.true), partners B i y n)

pub returns-then-not-match_step : goal.returns-then-not-match_step
returns-then-not-match_step c =
    depth_stuck c.requires.0 c.loop-t.invariant c.number.ensures c.wide-count.ensures c.match_step.ensures
    c.if-not-match_step.true

pub overflow_mul-pairs : goal.overflow_mul-pairs
overflow_mul-pairs c = Fits-under _ _ 200000 (twice_near _ c.wide-count.ensures.1) tt

pub overflow_add-pairs : goal.overflow_add-pairs
overflow_add-pairs c =
    Fits-under _ _ 200000 (pairs_near c.requires.0.here c.loop-t.invariant.here (before_last c.loop-t-test.true)
    c.number.ensures c.wide-count.ensures) tt

pub overflow_add-symbols : goal.overflow_add-symbols
overflow_add-symbols c =
    Fits-under _ _ 200000 (symbols_near c.requires.0.here c.loop-t.invariant.here (before_last c.loop-t-test.true)
    c.number.ensures c.wide-count.ensures) tt

pub loop-t-preserved : goal.loop-t-preserved
loop-t-preserved c =
    let B = c.requires.0 in
    depth_next B c.loop-t.invariant c.number.ensures c.wide-count.ensures c.match_step.ensures
    c.if-not-match_step.false (next_inner B c.loop-t-test.true)

pub overflow_add-n-2 : goal.overflow_add-n-2
overflow_add-n-2 c = Fits-under _ _ 13 (counts_near c.requires.0.here) tt

pub overflow_add-n-3 : goal.overflow_add-n-3
overflow_add-n-3 c = Fits-under _ _ 21 (count_near c.requires.0.here (last_step c.requires.1)) tt

pub match_last-requires : goal.match_last-requires
match_last-requires c =
    let p = c.requires in let B = p.0 in let i = c.loop-t.invariant in
    let y = last_count B i (search rules) c.number-2.ensures in let n = c.wide-count-2.ensures in
    (step_here B i y n, step_there B i y n, single_back B i y n (last_inner p.1 (search rules)), partners B i y n)

pub returns : goal.returns
returns c =
    let B = c.requires.0 in let i = c.loop-t.invariant in
    depth_last B i (last_count B i (search rules) c.number-2.ensures) c.wide-count-2.ensures
    (at_last B i (search rules))
    c.match_last.ensures
