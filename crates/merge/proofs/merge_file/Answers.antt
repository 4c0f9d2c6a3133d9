-- `merge::merge_file` is the check's refusal or what the words come to.
use Rattle.std.proofs.lemmas.Result.{err_from_is_err_and}
use Rattle.merge.proofs.Answered.{table_asked, ends_refused, ends_table}
use Rattle.merge.proofs.merge_file.Goals as goal

pub merge_table-requires : goal.merge_table-requires
merge_table-requires c =
    let asked = table_asked _ c.check.ensures c.in_ok-stated.was in
    record { accepted = asked.0; counted = asked.1; room = c.requires }

pub returns-in_err-stated : goal.returns-in_err-stated
returns-in_err-stated c =
    let p = err_from_is_err_and c.from_residual.result c.from_residual.ensures.1 in
    rw (p.1, p.2) (ends_refused _ _ _ _ c.check.ensures c.in_err-stated.was)

pub returns : goal.returns
returns c = ends_table _ _ _ _ _ _ _ (table_asked _ c.check.ensures c.in_ok-stated.was).0 c.merge_table.ensures
