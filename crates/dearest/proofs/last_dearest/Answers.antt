-- `dearest::last_dearest` passes over the items. The loop's invariant: of those passed, the last dearest is the one found, with its cost.
use borrow.Author.Rules.{rules}
use Rattle.dearest.proofs.LastDearest.{looked_start, looked_more, looked_all}
use Rattle.dearest.proofs.last_dearest.Goals as goal

pub loop-i-init : goal.loop-i-init
loop-i-init c = looked_start c.cost_of.ensures.0 (search rules)

pub loop-i-preserved : goal.loop-i-preserved
loop-i-preserved c = looked_more c.loop-i.invariant (search rules) c.cost_of-in-loop-i.ensures.0 c.dearer-found.ensures

pub returns : goal.returns
returns c = looked_all c.loop-i.invariant (search rules)
