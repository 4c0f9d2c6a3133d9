-- `gathering::grow_one` meets its contract. The loop's invariant: what is filled, and the edges of the vertex from k on, are all that is to
-- be put there.
use mathlib.Core.Path.{sym, ap, ◌∙◌}
use Rattle.edges.specs.declared.Edge.{Edge}
use Rattle.gathering.proofs.Growing.{putting_start, putting_next, putting_over, putting_done, putting_stops}
use Rattle.codes.proofs.Codes.{further_at}
use borrow.Author.Rules.{rules}
use Rattle.gathering.proofs.grow_one.Goals as goal

pub loop-k-init : goal.loop-k-init
loop-k-init c = let p = c.requires in putting_start p.1 p.2 p.3

pub returns-then-e-vertex : goal.returns-then-e-vertex
returns-then-e-vertex c =
    putting_stops c.loop-k.invariant c.loop-k-test.true
    (λ q. c.if-e-vertex.true (ap (λ (x : Edge). x.from) c.edge_at-e.ensures ∙ q ∙ sym c.vertex_of-vertex.ensures))
    c.requires.0.froms_rise

pub returns-then-filled-ge-MOST_WORDS : goal.returns-then-filled-ge-MOST_WORDS
returns-then-filled-ge-MOST_WORDS c =
    putting_over c.loop-k.invariant c.loop-k-test.true
    (sym (ap (λ (x : Edge). x.from) c.edge_at-e.ensures) ∙ c.if-e-vertex.false ∙ c.vertex_of-vertex.ensures) c.if-filled-ge-MOST_WORDS.true

pub loop-k-preserved : goal.loop-k-preserved
loop-k-preserved c =
    putting_next c.loop-k.invariant c.loop-k-test.true
    (sym (ap (λ (x : Edge). x.from) c.edge_at-e.ensures) ∙ c.if-e-vertex.false ∙ c.vertex_of-vertex.ensures) c.if-filled-ge-MOST_WORDS.false
    (further_at c.args.c c.further.ensures c.edge_at-e.ensures) c.requires.0.froms_rise

pub returns : goal.returns
returns c = putting_done c.loop-k.invariant (search rules)
