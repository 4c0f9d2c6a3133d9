-- `one_step::keep_edge` meets its contract: where the least cost in the end is above the limit, there is no candidate within it, and
-- otherwise one, which is admitted.
use Rattle.edges.specs.Inner.Edges.{meant_edge}
use Rattle.one_step.proofs.Streaming.{streamed_none, streamed_one}
use Rattle.one_step.proofs.keep_edge.Goals as goal

pub returns-then-cost-limit : goal.returns-then-cost-limit
returns-then-cost-limit c =
    let a = c.args in
    streamed_none a.costs.rows.now a.costs.prices.now a.costs.t a.paid a.code (meant_edge a.e) a.limit c.total-cost.ensures
    c.if-cost-limit.true c.requires.4

pub returns : goal.returns
returns c =
    let a = c.args in
    streamed_one a.costs.rows.now a.costs.prices.now a.costs.t a.paid a.code (meant_edge a.e) a.limit c.total-cost.ensures
    c.if-cost-limit.false c.requires.5 c.ranges.code.fits c.requires.3 c.further_code.ensures c.item.ensures c.admit.ensures
