-- `one_step::keep_item` meets its contract. The loop's invariant: what is kept, and the candidates within the limit along the edges of the
-- vertex from i on, give what is to be kept of all.
use mathlib.Core.Path.{sym, ap, ◌∙◌}
use native.Mathlib.Omega.{arith}
use Rattle.trellis.specs.Lists.{run}
use Rattle.edges.specs.Inner.Edges.{edge_in}
use Rattle.edges.specs.declared.Edge.{Edge}
use Rattle.codes.specs.Inner.Codes.{code_vertex}
use Rattle.edge_search.proofs.FirstEdges.{froms_rise_lem}
use Rattle.one_step.proofs.Streaming.{streaming_start, streaming_next, streaming_done, streaming_stops, streamed_at}
use Rattle.one_step.proofs.Streaming.{streamed_all, given_by}
use Rattle.one_step.proofs.keep_item.Goals as goal

pub paid-so_far-requires : goal.paid-so_far-requires
paid-so_far-requires c =
    let r = c.requires.1 in
    (r.inside, c.vertex_of-vertex.ensures ∙ ap code_vertex c.code_of-code.ensures)

pub first_edge-i-requires : goal.first_edge-i-requires
first_edge-i-requires c =
    let p = c.requires in
    (froms_rise_lem p.0, p.3, omega (arith, c.vertex_of-vertex.ensures))

pub loop-i-init : goal.loop-i-init
loop-i-init c =
    let a = c.args in
    streaming_start {cand = given_by a.costs.rows.now a.costs.prices.now a.costs.t a.limit a.x} c.first_edge-i.ensures
    (c.vertex_of-vertex.ensures ∙ ap code_vertex c.code_of-code.ensures) c.requires.2

pub edge_at-e-requires : goal.edge_at-e-requires
edge_at-e-requires c =
    let s = c.requires.0.small.there in
    (omega (arith, s.pairs_in, c.loop-i-test.true), omega (arith, s.symbols_in, c.loop-i-test.true))

pub returns-then-e-vertex : goal.returns-then-e-vertex
returns-then-e-vertex c =
    let a = c.args in
    streamed_all a.costs.rows.now a.costs.prices.now a.costs.t a.limit (run (edge_in a.step.pairs.now a.step.symbols.now) 0 a.step.count) a.x
    (streaming_stops {cand = given_by a.costs.rows.now a.costs.prices.now a.costs.t a.limit a.x} c.requires.0.froms_rise c.loop-i.invariant c.loop-i-test.true
    (λ q. c.if-e-vertex.true (ap (λ (x : Edge). x.from) c.edge_at-e.ensures ∙ q
    ∙ sym (c.vertex_of-vertex.ensures ∙ ap code_vertex c.code_of-code.ensures))))

pub keep_edge-held-requires : goal.keep_edge-held-requires
keep_edge-held-requires c =
    let s = c.requires in (
      s.1,
      c.paid-so_far.ensures.1,
      omega (arith, s.0.small.symbol_small _ c.loop-i-test.true, ap (λ (x : Edge). x.symbol) c.edge_at-e.ensures),
      omega (arith, s.0.small.to_small _ c.loop-i-test.true, ap (λ (x : Edge). x.to) c.edge_at-e.ensures),
      c.loop-i.invariant.kept,
      s.4,
    )

pub loop-i-preserved : goal.loop-i-preserved
loop-i-preserved c =
    let a = c.args in
    streaming_next {cand = given_by a.costs.rows.now a.costs.prices.now a.costs.t a.limit a.x} c.requires.0.froms_rise c.loop-i.invariant c.loop-i-test.true
    (sym (ap (λ (x : Edge). x.from) c.edge_at-e.ensures) ∙ c.if-e-vertex.false
    ∙ c.vertex_of-vertex.ensures ∙ ap code_vertex c.code_of-code.ensures)
    (streamed_at a.costs.rows.now a.costs.prices.now a.costs.t a.x (edge_in a.step.pairs.now a.step.symbols.now c.loop-i.i) a.limit
    c.paid-so_far.ensures.0 c.code_of-code.ensures c.edge_at-e.ensures c.keep_edge-held.ensures)

pub returns : goal.returns
returns c =
    let a = c.args in
    streamed_all a.costs.rows.now a.costs.prices.now a.costs.t a.limit (run (edge_in a.step.pairs.now a.step.symbols.now) 0 a.step.count) a.x
    (streaming_done {cand = given_by a.costs.rows.now a.costs.prices.now a.costs.t a.limit a.x} c.requires.0.froms_rise c.loop-i.invariant c.loop-i-test.false)
