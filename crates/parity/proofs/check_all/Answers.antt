-- `parity::check_all` takes up row after row, each by its syndrome: the loop keeps that the columns are the check of those taken up so far.
use borrow.Author.Rules.{rules}
use Rattle.parity.proofs.Checking.{taken_none, taken_next, taken_all}
use Rattle.parity.proofs.check_all.Goals as goal

pub loop-row-init : goal.loop-row-init
loop-row-init c = taken_none _

pub loop-row-preserved : goal.loop-row-preserved
loop-row-preserved c =
    let narrow = c.requires in
    taken_next c.loop-row.invariant narrow (search rules) c.syndrome-z.ensures c.take_up.ensures

pub returns : goal.returns
returns c = taken_all c.loop-row.invariant (search rules)
