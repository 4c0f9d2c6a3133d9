-- `numbers::total` meets its contract. The loop's invariant: the sum is that of the numbers passed.
use Rattle.numbers.proofs.Sums.{summed_start, summed_next, summed_all}
use borrow.Author.Rules.{rules}
use Rattle.numbers.proofs.total.Goals as goal

pub loop-t-init : goal.loop-t-init
loop-t-init c = summed_start _ _

pub loop-t-preserved : goal.loop-t-preserved
loop-t-preserved c = search (rules, summed_next)

pub returns : goal.returns
returns c = summed_all c.loop-t.invariant (search rules)
