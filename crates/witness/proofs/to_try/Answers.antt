-- `witness::to_try` meets its contract, by its two ways out.
use mathlib.Core.Path.{◌∙◌}
use Rattle.lacking.proofs.Passing.{try_first, try_run}
use Rattle.witness.proofs.to_try.Goals as goal

pub returns-then-a-i : goal.returns-then-a-i
returns-then-a-i c = try_first _ _ _ _ _ c.from-a.ensures c.if-a-i.true

pub returns : goal.returns
returns c = c.in_run.ensures ∙ try_run _ _ _ _ _ c.from-a.ensures c.if-a-i.false
