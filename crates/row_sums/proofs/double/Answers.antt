-- `row_sums::double` writes one number after another behind the others: the loop keeps which stand.
use borrow.Author.Rules.{rules}
use Rattle.row_sums.proofs.Doubling.{doubled_none, doubled_next, doubled_end}
use Rattle.row_sums.proofs.double.Goals as goal

pub loop-j-init : goal.loop-j-init
loop-j-init c = (doubled_none _ _ _ _, search rules)

pub loop-j-preserved : goal.loop-j-preserved
loop-j-preserved c = (doubled_next c.loop-j.invariant.0 (search rules) (search rules), search rules)

pub returns : goal.returns
returns c = doubled_end c.loop-j.invariant.0 (search rules) (search rules)
