-- `following::match_last` meets its contract, by the law of the last step.
use mathlib.Core.Bool.{false}
use Rattle.twins.proofs.Marking.{small_of}
use Rattle.following.proofs.Steps.{last_matched}
use Rattle.following.proofs.match_last.Goals as goal

pub returns : goal.returns
returns c =
    let p = c.requires in
    last_matched (small_of false p.0.edges.small) c.ends_of-starts.ensures p.3 c.all_close.ensures
