-- `parity::check` takes up row after row: the loop keeps that none of them is a sum of those before it, and that the columns are their
-- check. A row of syndrome 0 is the first that is such a sum.
use borrow.Author.Rules.{rules}
use Rattle.parity.proofs.Checking.{check_start, check_turn, check_stop, check_end}
use Rattle.parity.proofs.check.Goals as goal

pub loop-j-init : goal.loop-j-init
loop-j-init c = (check_start _, search rules)

pub returns-then-z-eq0 : goal.returns-then-z-eq0
returns-then-z-eq0 c =
    let narrow = c.requires in
    check_stop c.loop-j.invariant.0 narrow (search rules) c.syndrome-z.ensures c.if-z-eq0.true

pub loop-j-preserved : goal.loop-j-preserved
loop-j-preserved c =
    let narrow = c.requires in (
      check_turn c.loop-j.invariant.0 narrow (search rules) c.syndrome-z.ensures c.if-z-eq0.false c.take_up.ensures,
      search rules,
    )

pub returns : goal.returns
returns c = check_end c.loop-j.invariant.0 (search rules) (search rules)
