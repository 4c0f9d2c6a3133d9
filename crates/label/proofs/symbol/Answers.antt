-- `label::symbol` meets its contract, by what `behind` and `without_last` ensure: n - t - 1 symbols stand behind symbol t.
use Rattle.label.proofs.Shifts.{symbol_by}
use Rattle.label.proofs.symbol.Goals as goal

pub returns : goal.returns
returns c = symbol_by _ _ _ c.behind.ensures c.behind-2.ensures c.without_last.ensures
