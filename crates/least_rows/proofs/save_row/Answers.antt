-- `least_rows::save_row` goes over the ranks of a row. The loop's invariant: the distances of those passed are saved.
use borrow.Author.Rules.{rules}
use Rattle.least_rows.proofs.Saving.{save_start, save_more, save_end}
use Rattle.least_rows.proofs.save_row.Goals as goal

pub loop-v-init : goal.loop-v-init
loop-v-init c = save_start c.requires

pub cost_of-requires : goal.cost_of-requires
cost_of-requires c = c.requires.small c.loop-v.v c.loop-v-test.true

pub loop-v-preserved : goal.loop-v-preserved
loop-v-preserved c = save_more c.requires c.loop-v.invariant c.loop-v-test.true c.cost_of.ensures

pub returns : goal.returns
returns c = save_end c.loop-v.invariant (search rules)
