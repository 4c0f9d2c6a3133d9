-- `lacking::before_run` meets its contract, by its two ways out.
use borrow.Author.Tests.{lt-ltb, le-ltb}
use Rattle.lacking.specs.Inner.Rows.{before_run}
use Rattle.lacking.proofs.before_run.Goals as goal

pub returns-then-l-w : goal.returns-then-l-w
unfolding before_run
returns-then-l-w c = simp (lt-ltb _ _ c.if-l-w.true)

pub returns-else-l-w : goal.returns-else-l-w
unfolding before_run
returns-else-l-w c = simp (le-ltb _ _ c.if-l-w.false)
