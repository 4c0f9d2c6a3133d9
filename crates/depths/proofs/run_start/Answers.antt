-- `depths::run_start` meets its contract, by its three ways out.
use borrow.Author.Tests.{eq-eqb, ne_eqb}
use mathlib.Core.Path.{sym}
use Rattle.depth_runs.specs.Inner.Rows.{joins, start_by}
use Rattle.depths.proofs.run_start.Goals as goal

pub returns-then-i-eq0 : goal.returns-then-i-eq0
unfolding start_by
returns-then-i-eq0 c = simp (eq-eqb _ _ c.if-i-eq0.true)

pub returns-then-begin_alike : goal.returns-then-begin_alike
unfolding start_by joins
returns-then-begin_alike c = simp (ne_eqb _ _ c.if-i-eq0.false, sym c.begin_alike.ensures, c.if-begin_alike.true)

pub returns-else-begin_alike : goal.returns-else-begin_alike
unfolding start_by joins
returns-else-begin_alike c = simp (ne_eqb _ _ c.if-i-eq0.false, sym c.begin_alike.ensures, c.if-begin_alike.false)
