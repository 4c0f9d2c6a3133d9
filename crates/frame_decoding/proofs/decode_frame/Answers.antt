-- `frame_decoding::decode_frame` names a fault of the frame or the first bad block, or goes on with the blocks.
use mathlib.Core.Path.{ap, ◌∙◌}
use Rattle.frame.specs.Frame.{frame}
use Rattle.frame.proofs.Checks.{frame_passed}
use Rattle.decoding.specs.Decoding.{fitted}
use Rattle.decoding.proofs.Faults.{ends_fault, past_frame}
use Rattle.frame_decoding.proofs.decode_frame.Goals as goal

pub returns-in-Err : goal.returns-in-Err
returns-in-Err c = ends_fault (frame _ _ _ _ _ _ _) _ _ _ _ c.in-Err.ensures.0

pub returns-in-Ok : goal.returns-in-Ok
returns-in-Ok c =
    past_frame (frame _ _ _ _ _ _ _) _ _ _ _ (frame_passed c.in-Ok.ensures.0)
    (c.decode_blocks.ensures _
    ∙ ap (λ f. fitted f c.args.costs.now c.args.labels.now c.args.goals.now c.args.masks.now) c.in-Ok.ensures.1)
