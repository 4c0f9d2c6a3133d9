-- `one_step::keep_item` meets its contract. The loop's invariant: what is kept, and the candidates within the limit along the edges of the
-- vertex from i on, give what is to be kept of all.
use Rattle.edges.specs.Inner.Edges.{edge_in}
use Rattle.dearest.specs.Inner.Items.{code_in}
use Rattle.codes.specs.Inner.Codes.{code_vertex}
use Rattle.one_step.proofs.Streaming.{Streaming, given_by}
use Rattle.one_step.proofs.keep_item.Given as goal

abbrev pub invariant-loop-i : goal.invariant-loop-i
invariant-loop-i l = Streaming (given_by l.costs.rows.now l.costs.prices.now l.costs.t l.limit l.x) (edge_in l.step.pairs.now l.step.symbols.now) l.step.count
    (code_vertex (code_in l.x)) l.k l.initial.held.count l.initial.items l.items l.held.count l.held.worst l.i
