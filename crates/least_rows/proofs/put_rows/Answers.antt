-- `least_rows::put_rows` makes the rows from the last depth to the first and saves each. The loop's invariant: the row of depth t holds the
-- least ranks, and the depths from t on have their costs saved.
use borrow.Author.Rules.{rules}
use Rattle.section_file.proofs.Seen.{goals_at}
use Rattle.sweep.proofs.Sweeping.{sweep_start, sweep_fits, sweep_more}
use Rattle.sweep.proofs.Sweeping as sweep
use Rattle.passes.proofs.Passing.{sweep_asked}
use Rattle.least_rows.proofs.AllRows.{save_asked, goals_count, last_asked, rows_none, rows_more, rows_end}
use Rattle.least_rows.proofs.put_rows.Goals as goal

pub overflow_sub-at : goal.overflow_sub-at
overflow_sub-at c = (goals_at c.requires.0).le

pub save_side-requires : goal.save_side-requires
save_side-requires c = last_asked _ _ c.requires.0 c.put_goals_side.ensures.0 (search rules)

pub loop-t-init : goal.loop-t-init
loop-t-init c =
    let S = c.requires.0 in
    let G = c.put_goals_side.ensures in
    let I = sweep_start S (sweep_asked S c.requires.1 G.0 G.1 G.2) in
    (I, rows_more I (rows_none S (search rules)) c.save_side.ensures (goals_count S) (search rules))

pub overflow_sub-before : goal.overflow_sub-before
overflow_sub-before c =
    let S = c.requires.0 in
    let G = c.put_goals_side.ensures in
    let A = sweep_asked S c.requires.1 G.0 G.1 G.2 in
    sweep_fits S A c.loop-t.invariant.0 c.loop-t-test.true c.from-before.ensures

pub lower_side-requires : goal.lower_side-requires
lower_side-requires c =
    let S = c.requires.0 in
    let G = c.put_goals_side.ensures in
    let A = sweep_asked S c.requires.1 G.0 G.1 G.2 in
    let I = c.loop-t.invariant.0 in
    (S, sweep.sweep_asked S A I c.loop-t-test.true c.from-before.ensures)

pub save_side-requires-in-loop-t : goal.save_side-requires-in-loop-t
save_side-requires-in-loop-t c =
    let S = c.requires.0 in
    let G = c.put_goals_side.ensures in
    let A = sweep_asked S c.requires.1 G.0 G.1 G.2 in
    let D = c.lower_side.ensures in
    let I = c.loop-t.invariant in
    let J = sweep_more S A I.0 c.loop-t-test.true c.from-before.ensures D.0 D.1 D.2 in
    save_asked S J.t_le c.from.ensures D.0.long J.small I.1.long

pub loop-t-preserved : goal.loop-t-preserved
loop-t-preserved c =
    let S = c.requires.0 in
    let G = c.put_goals_side.ensures in
    let A = sweep_asked S c.requires.1 G.0 G.1 G.2 in
    let D = c.lower_side.ensures in
    let I = c.loop-t.invariant in
    let J = sweep_more S A I.0 c.loop-t-test.true c.from-before.ensures D.0 D.1 D.2 in
    (J, rows_more J I.1 c.save_side-in-loop-t.ensures c.from.ensures (search rules))

pub returns : goal.returns
returns c =
    let I = c.loop-t.invariant in
    (rows_end c.requires.0 c.put_goals_side.ensures.0 I.1 (search rules), I.0.even_long, I.0.odd_long)
