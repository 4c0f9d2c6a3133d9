-- `twins::marks` meets its contract. The loop's invariant: just the vertices passed are marked.
use mathlib.Core.Path.{refl, ap}
use Rattle.edges.specs.declared.Edge.{Edge}
use Rattle.twins.proofs.Marking.{small_of, marking_start, marking_next, marking_all}
use borrow.Author.Rules.{rules}
use Rattle.twins.proofs.marks.Goals as goal

pub loop-k-init : goal.loop-k-init
loop-k-init c = marking_start _ _ refl

pub loop-k-preserved : goal.loop-k-preserved
loop-k-preserved c =
    marking_next c.loop-k.invariant c.loop-k-test.true (ap (λ (e : Edge). e.from) c.edge_met-e.ensures)
    ((small_of c.args.back c.requires).ones _ c.loop-k-test.true)

pub returns : goal.returns
returns c = marking_all c.loop-k.invariant (search rules)
