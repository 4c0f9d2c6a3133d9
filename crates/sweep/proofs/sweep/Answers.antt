-- `sweep::sweep` makes the rows from the last depth to the first. The loop's invariant: the row of depth t holds the least costs.
use borrow.Author.Rules.{rules}
use Rattle.sweep.proofs.Sweeping.{sweep_start, sweep_fits, sweep_asked, sweep_more, sweep_end}
use Rattle.sweep.proofs.sweep.Goals as goal

pub loop-t-init : goal.loop-t-init
loop-t-init c = sweep_start c.requires.0 c.requires.1

pub overflow_sub-before : goal.overflow_sub-before
overflow_sub-before c = sweep_fits c.requires.0 c.requires.1 c.loop-t.invariant c.loop-t-test.true c.from-before.ensures

pub lower_side-requires : goal.lower_side-requires
lower_side-requires c =
    let I = c.loop-t.invariant in (
      c.requires.0,
      sweep_asked c.requires.0 c.requires.1 I c.loop-t-test.true c.from-before.ensures,
    )

pub loop-t-preserved : goal.loop-t-preserved
loop-t-preserved c =
    let E = c.lower_side.ensures in
    sweep_more c.requires.0 c.requires.1 c.loop-t.invariant c.loop-t-test.true c.from-before.ensures E.0 E.1 E.2

pub returns : goal.returns
returns c = sweep_end c.loop-t.invariant (search rules)
