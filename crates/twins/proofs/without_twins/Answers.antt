-- `twins::without_twins` meets its contract. The loop's invariant: no two edges passed make twins, and for each vertex and
-- symbol that they have the array has their one vertex at the other end.
use mathlib.Core.Path.{refl, ap}
use Prim.Native.Nat.{◌+◌, ◌*◌}
use Rattle.trellis.specs.Bounds.{most_q}
use Rattle.edges.specs.declared.Edge.{Edge}
use Rattle.twins.proofs.Marking.{small_of, apart_start, twins_found, twins_not, twins_none}
use borrow.Author.Rules.{rules}
use Rattle.twins.proofs.without_twins.Goals as goal

pub loop-k-init : goal.loop-k-init
loop-k-init c = apart_start refl

pub returns-then-differs : goal.returns-then-differs
returns-then-differs c =
    twins_found (small_of c.args.back c.requires) c.loop-k.invariant c.loop-k-test.true
    (ap (λ (e : Edge). most_q * e.from + e.symbol) c.edge_met-e.ensures) (ap (λ (e : Edge). e.to) c.edge_met-e.ensures)
    c.differs.ensures c.if-differs.true

pub loop-k-preserved : goal.loop-k-preserved
loop-k-preserved c =
    twins_not (small_of c.args.back c.requires) c.loop-k.invariant c.loop-k-test.true
    (ap (λ (e : Edge). most_q * e.from + e.symbol) c.edge_met-e.ensures) (ap (λ (e : Edge). e.to) c.edge_met-e.ensures)
    c.differs.ensures c.if-differs.false

pub returns : goal.returns
returns c = twins_none c.loop-k.invariant (search rules)
