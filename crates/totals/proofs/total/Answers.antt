-- `totals::total` meets its contract, by what its calls ensure: three numbers of 32 bits have a sum of 64 bits.
use Rattle.totals.proofs.Costs.{total_is}
use Rattle.totals.proofs.total.Goals as goal

pub returns : goal.returns
returns c =
    let a = c.args in
    total_is a.rows.now a.prices.now a.t a.paid a.e c.price_of.ensures c.least_from.ensures
