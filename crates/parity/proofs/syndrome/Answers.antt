-- `parity::syndrome` adds up one column after another: the loop keeps that what is summed up and what is left make the whole sum.
use borrow.Author.Rules.{rules}
use Rattle.parity.proofs.Columns.{summed_none, summed_next, summed_all}
use Rattle.parity.proofs.syndrome.Goals as goal

pub loop-column-init : goal.loop-column-init
loop-column-init c = (summed_none _ _, search rules)

pub loop-column-preserved : goal.loop-column-preserved
loop-column-preserved c = (summed_next c.loop-column.invariant.0 (search rules) c.picked-sum.ensures, search rules)

pub returns : goal.returns
returns c = summed_all c.loop-column.invariant.0 (search rules) (search rules) (search rules)
