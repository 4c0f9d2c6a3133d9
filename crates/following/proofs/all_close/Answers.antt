-- `following::all_close` meets its contract. The loop's invariant: the edges passed leave the right vertices.
use mathlib.Core.Path.{ap}
use lib.ListN.{get_or}
use Rattle.edges.specs.declared.Edge.{Edge}
use Rattle.partners.specs.Inner.Following.{slot}
use Rattle.partners.proofs.Tests.{agree_start, agree_not, agree_next, agree_all}
use borrow.Author.Rules.{rules}
use Rattle.following.proofs.all_close.Goals as goal

pub loop-k-init : goal.loop-k-init
loop-k-init c = agree_start

pub returns-then-starts-slot : goal.returns-then-starts-slot
returns-then-starts-slot c =
    let a = c.args in
    agree_not c.loop-k.invariant c.loop-k-test.true
    (ap (λ (e : Edge). get_or a.starts.now (slot e.to e.symbol) 0) c.edge_at-e.ensures)
    (ap (λ (e : Edge). get_or a.matched.now e.from 0) c.edge_at-e.ensures) c.if-starts-slot.true

pub loop-k-preserved : goal.loop-k-preserved
loop-k-preserved c =
    let a = c.args in
    agree_next c.loop-k.invariant c.loop-k-test.true
    (ap (λ (e : Edge). get_or a.starts.now (slot e.to e.symbol) 0) c.edge_at-e.ensures)
    (ap (λ (e : Edge). get_or a.matched.now e.from 0) c.edge_at-e.ensures) c.if-starts-slot.false

pub returns : goal.returns
returns c = agree_all c.loop-k.invariant (search rules)
