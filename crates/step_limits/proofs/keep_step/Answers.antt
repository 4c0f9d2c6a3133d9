-- `step_limits::keep_step` meets its contract: what is kept within the limit is enough, or else the step is made again within the greatest,
-- which leaves nothing out.
use mathlib.Core.Path.{sym, ◌∙◌}
use lib.ListN.{take}
use Rattle.one_step.proofs.Limits.{unlimited, stepped_enough, stepped_same}
use Rattle.step_limits.proofs.keep_step.Goals as goal

pub returns-then-is_enough : goal.returns-then-is_enough
returns-then-is_enough c =
    let a = c.args in
    stepped_enough a.limit c.requires.1.few (sym c.is_enough.ensures ∙ c.if-is_enough.true)
    (unlimited a.costs.rows.now a.costs.prices.now a.costs.t c.requires.0 (take a.have a.old.now)) c.step_within-held.ensures

pub returns : goal.returns
returns c =
    let a = c.args in
    stepped_same (unlimited a.costs.rows.now a.costs.prices.now a.costs.t c.requires.0 (take a.have a.old.now)) c.step_within.ensures
