-- `one_step::step_within` meets its contract. The loop's invariant: what is kept is what is kept of the candidates of the items passed,
-- within the limit, which came one after another.
use Rattle.trellis.specs.Lists.{run}
use Rattle.edges.specs.Inner.Edges.{edge_in}
use Rattle.one_step.specs.Inner.Steps.{candidates}
use Rattle.one_step.specs.Inner.Loops.{limited}
use Rattle.one_step.proofs.Streaming.{Stepping}
use Rattle.one_step.proofs.step_within.Given as goal

abbrev pub invariant-loop-x : goal.invariant-loop-x
invariant-loop-x l = Stepping (λ x. limited l.limit (candidates l.costs.rows.now l.costs.prices.now l.costs.t (run (edge_in l.step.pairs.now l.step.symbols.now) 0 l.step.count) x)) l.k l.old l.have l.items
    l.held.count l.held.worst l.x-index
