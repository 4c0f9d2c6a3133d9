-- `frame_decoding::decode_blocks` names the first short buffer, or decodes where none is short.
use Rattle.frame.specs.Frame.{frame}
use Rattle.room.proofs.Fitting.{some_needed, room_to_decode}
use Rattle.decoding.proofs.Faults.{ends_short}
use Rattle.frame_decoding.proofs.decode_blocks.Goals as goal

pub returns-in-Some : goal.returns-in-Some
returns-in-Some c = let N = some_needed _ c.in-Some.ensures in λ k. ends_short (frame _ k _ _ _ _ _) _ _ _ _ N.0 N.1

pub decode_with-requires : goal.decode_with-requires
decode_with-requires c = room_to_decode c.args.f.checked.framed.some c.in_default.ensures
