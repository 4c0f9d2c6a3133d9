-- `chain_list::decode_list` names a fault of the sections, or goes on with the frame.
use Rattle.std.proofs.lemmas.Result.{MatchResult-at_ok, MatchResult-at_err}
use Rattle.frame.specs.Frame.{frame}
use Rattle.path_list.proofs.Faults.{ends_section, past_sections}
use Rattle.chain_list.proofs.decode_list.Goals as goal

pub returns-in-Err : goal.returns-in-Err
returns-in-Err c =
    let F = MatchResult-at_err _ _ _ c.in-Err.is c.find.ensures in
    ends_section (frame _ _ _ _ _ _ _) _ _ _ _ _ F.bad F.index_is

pub list_frame-requires : goal.list_frame-requires
list_frame-requires c = (MatchResult-at_ok _ _ _ c.in-Ok.is c.find.ensures).all

pub returns-in-Ok : goal.returns-in-Ok
returns-in-Ok c =
    past_sections (frame _ _ _ _ _ _ _) _ _ _ _ _ (MatchResult-at_ok _ _ _ c.in-Ok.is c.find.ensures).good c.list_frame.ensures
