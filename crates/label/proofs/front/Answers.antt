-- `label::front` meets its contract, by what `behind` and `without_last` ensure.
use Rattle.label.proofs.Shifts.{front_by}
use Rattle.label.proofs.front.Goals as goal

pub returns : goal.returns
returns c = front_by _ _ _ c.behind.ensures c.without_last.ensures
