-- `chain::decode` names a fault of the sections, or goes on with the frame.
use Rattle.std.proofs.lemmas.Result.{MatchResult-at_ok, MatchResult-at_err}
use Rattle.frame.specs.Frame.{frame}
use Rattle.decoding.proofs.Faults.{ends_section, past_sections}
use Rattle.chain.proofs.decode.Goals as goal

pub returns-in-Err : goal.returns-in-Err
returns-in-Err c =
    let F = MatchResult-at_err _ _ _ c.in-Err.is c.find.ensures in
    ends_section (frame _ _ _ _ _ _ _) _ _ _ _ F.bad F.index_is

pub decode_frame-requires : goal.decode_frame-requires
decode_frame-requires c = (MatchResult-at_ok _ _ _ c.in-Ok.is c.find.ensures).all

pub returns-in-Ok : goal.returns-in-Ok
returns-in-Ok c =
    past_sections (frame _ _ _ _ _ _ _) _ _ _ _ (MatchResult-at_ok _ _ _ c.in-Ok.is c.find.ensures).good c.decode_frame.ensures
