-- `label::back` meets its contract, by what `behind` and `only_last` ensure.
use Rattle.label.proofs.Shifts.{back_by}
use Rattle.label.proofs.back.Goals as goal

pub returns : goal.returns
returns c = back_by _ _ _ c.behind.ensures c.only_last.ensures
