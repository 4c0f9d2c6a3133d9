-- `chain_list::list_frame` names a fault of the frame or the first bad block, or goes on with the number of paths.
use mathlib.Core.Path.{ap, ◌∙◌}
use Rattle.frame.specs.Frame.{frame}
use Rattle.frame.proofs.Checks.{frame_passed}
use Rattle.path_list.specs.Listing.{counted}
use Rattle.path_list.proofs.Faults.{ends_fault, past_frame}
use Rattle.chain_list.proofs.list_frame.Goals as goal

pub returns-in-Err : goal.returns-in-Err
returns-in-Err c = ends_fault (frame _ _ _ _ _ _ _) _ _ _ _ _ c.in-Err.ensures.0

pub returns-in-Ok : goal.returns-in-Ok
returns-in-Ok c =
    past_frame (frame _ _ _ _ _ _ _) _ _ _ _ _ (frame_passed c.in-Ok.ensures.0)
    (c.list_blocks.ensures _
    ∙ ap (λ f. counted f c.args.paths c.args.costs.now c.args.distances.now c.args.labels.now c.args.goals.now) c.in-Ok.ensures.1)
