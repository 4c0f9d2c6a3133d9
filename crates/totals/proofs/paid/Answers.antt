-- `totals::paid` meets its contract: nothing is paid where the cost is below what is left, or else the difference.
use Rattle.totals.proofs.Costs.{paid_is}
use Rattle.totals.proofs.paid.Goals as goal

pub returns : goal.returns
returns c =
    let a = c.args in
    paid_is a.rows.now a.t a.x c.requires.1 c.least_from.ensures c.cost_of.ensures c.saturating_sub.ensures
