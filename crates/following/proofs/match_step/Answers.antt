-- `following::match_step` meets its contract, by the law of one step.
use mathlib.Core.Bool.{false}
use Rattle.twins.proofs.Marking.{small_of}
use Rattle.following.proofs.Steps.{step_matched}
use Rattle.following.proofs.match_step.Goals as goal

pub returns : goal.returns
returns c =
    let p = c.requires in
    step_matched (small_of false p.0.edges.small) c.ends_of-ends.ensures p.3 c.carry.ensures
