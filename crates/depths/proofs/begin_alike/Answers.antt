-- `depths::begin_alike` meets its contract: roots alike and fronts alike, by what `label::front` ensures.
use borrow.Author.Tests.{eq-eqb, ne_eqb}
use Rattle.depth_runs.specs.Inner.Rows.{begin_alike}
use Rattle.depths.proofs.begin_alike.Goals as goal

pub returns-then-roots-i : goal.returns-then-roots-i
unfolding begin_alike
returns-then-roots-i c = simp (eq-eqb _ _ c.if-roots-i.true, c.front.ensures, c.front-then-roots-i.ensures)

pub returns-else-roots-i : goal.returns-else-roots-i
unfolding begin_alike
returns-else-roots-i c = simp (ne_eqb _ _ c.if-roots-i.false)
