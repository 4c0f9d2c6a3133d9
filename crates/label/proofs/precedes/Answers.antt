-- `label::precedes` meets its contract: the order of labels is the order of symbols.
use Rattle.label.proofs.Order.{in_order}
use Rattle.label.proofs.precedes.Goals as goal

pub returns : goal.returns
returns c = in_order _ _
