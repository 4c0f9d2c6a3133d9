-- `partners::carry` meets its contract. The loop's invariant: each vertex that an edge passed has reached has the partner
-- that the edge gives it, and all others have none.
use mathlib.Core.Path.{refl, ap, ◌∙◌}
use Rattle.edges.specs.Inner.Edges.{meant_edge}
use Rattle.edges.specs.declared.Edge.{Edge}
use Rattle.partners.specs.Inner.Following.{end_for}
use Rattle.partners.proofs.Carrying.{end_asked, carried_start, carried_stuck, carried_next, carried_all}
use borrow.Author.Rules.{rules}
use Rattle.partners.proofs.carry.Goals as goal

pub loop-k-init : goal.loop-k-init
loop-k-init c = carried_start refl

pub end_for-end-requires : goal.end_for-end-requires
end_for-end-requires c =
    let p = c.requires in
    end_asked c.args.ends.now p.0 p.2 p.1 c.loop-k-test.true c.edge_at-e.ensures

pub returns-then-not-can_join : goal.returns-then-not-can_join
returns-then-not-can_join c =
    let a = c.args in
    carried_stuck c.loop-k.invariant c.loop-k-test.true (c.requires.0.to_small _ c.loop-k-test.true)
    (ap (λ (e : Edge). e.to) c.edge_at-e.ensures) (c.end_for-end.ensures
    ∙ ap (λ (e : Edge). end_for a.ends.now a.old.now (meant_edge e)) c.edge_at-e.ensures)
    c.can_join.ensures c.if-not-can_join.true

pub loop-k-preserved : goal.loop-k-preserved
loop-k-preserved c =
    let a = c.args in
    carried_next c.loop-k.invariant c.loop-k-test.true (c.requires.0.to_small _ c.loop-k-test.true)
    (ap (λ (e : Edge). e.to) c.edge_at-e.ensures) (c.end_for-end.ensures
    ∙ ap (λ (e : Edge). end_for a.ends.now a.old.now (meant_edge e)) c.edge_at-e.ensures)
    c.can_join.ensures c.if-not-can_join.false

pub returns : goal.returns
returns c = carried_all c.loop-k.invariant (search rules)
