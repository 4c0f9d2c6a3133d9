-- `dearest::dearest_before` goes back from the place at which cheaper ones begin. The loop's invariant: those from i on cost less than the
-- bound, and none costs more. So an item that costs as much as the bound is the last dearest.
use Rattle.dearest.proofs.LastDearest.{cheaper_found, cheaper_more}
use Rattle.dearest.proofs.dearest_before.Goals as goal

pub returns-then-cost_of-cost : goal.returns-then-cost_of-cost
returns-then-cost_of-cost c = cheaper_found c.loop-i.invariant c.loop-i-test.true c.cost_of.ensures.0 c.if-cost_of-cost.true

pub loop-i-preserved : goal.loop-i-preserved
loop-i-preserved c = cheaper_more c.loop-i.invariant c.loop-i-test.true c.cost_of.ensures.0 c.if-cost_of-cost.false
