-- `usable::usable_at` meets its contract: past the end of the slice there is no section.
use mathlib.Core.Path.{◌∙◌}
use native.Mathlib.Omega.{arith}
use Rattle.usable.proofs.Steps.{part_past}
use Rattle.usable.proofs.usable_at.Goals as goal

pub returns-in_err-get : goal.returns-in_err-get
returns-in_err-get c =
    c.from_residual.ensures ∙ part_past c.args.s.now c.args.at (omega (arith, c.in_err-get.ensures.lookup.0))
