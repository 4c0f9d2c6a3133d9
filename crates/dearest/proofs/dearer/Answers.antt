-- `dearest::dearer`: the two costs compared give the place of the dearer, the later place where they are the same.
use Rattle.dearest.proofs.LastDearest.{later_at, later_i}
use Rattle.dearest.proofs.dearer.Goals as goal

pub returns-then-cost-found : goal.returns-then-cost-found
returns-then-cost-found c = later_at c.if-cost-found.true

pub returns-else-cost-found : goal.returns-else-cost-found
returns-else-cost-found c = later_i c.if-cost-found.false
