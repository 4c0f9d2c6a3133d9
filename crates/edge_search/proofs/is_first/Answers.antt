-- `edge_search::is_first` meets its contract: each way out is the test of the definition that the ones before it leave. The first edge of
-- all has none before it.
use mathlib.Core.Path.{◌∙◌}
use borrow.Author.Tests.{eq-eqb, lt-leb}
use Rattle.edge_search.proofs.FirstEdges.{first_past, first_under, first_front, first_behind}
use Rattle.edge_search.proofs.is_first.Goals as goal

pub returns-then-place-count : goal.returns-then-place-count
returns-then-place-count c = first_past _ _ _ _ c.if-place-count.true

pub returns-then-place-eq0 : goal.returns-then-place-eq0
returns-then-place-eq0 c =
    eq-eqb _ _ c.if-place-eq0.true
    ∙ first_front _ _ _ _ c.if-place-count.false c.from.ensures c.if-from-vertex.true c.if-place-eq0.true

pub returns-else-place-eq0 : goal.returns-else-place-eq0
returns-else-place-eq0 c =
    first_behind _ _ _ _ c.if-place-count.false c.from.ensures c.if-from-vertex.true c.if-place-eq0.false c.from-else-place-eq0.ensures

pub returns-else-from-vertex : goal.returns-else-from-vertex
returns-else-from-vertex c =
    lt-leb _ _ c.if-from-vertex.false ∙ first_under _ _ _ _ c.if-place-count.false c.from.ensures c.if-from-vertex.false
