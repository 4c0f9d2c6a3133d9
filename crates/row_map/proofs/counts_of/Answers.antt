-- `row_map::counts_of` sets the counts depth by depth: the loop keeps that those before t are set.
use Rattle.row_map.proofs.AllDepths.{counting_none, counting_next, counting_end}
use borrow.Author.Rules.{rules}
use Rattle.row_map.proofs.counts_of.Goals as goal

pub loop-t-init : goal.loop-t-init
loop-t-init c = counting_none _ _ (search rules)

pub loop-t-preserved : goal.loop-t-preserved
loop-t-preserved c = counting_next c.loop-t.invariant (search rules) (search (rules, c.requires c.loop-t.t))

pub returns : goal.returns
returns c = counting_end c.loop-t.invariant (search rules)
