-- `same_section::same_section` meets its contract: where the first list is no section that is the answer, and else the two are compared.
use Rattle.whole_section.proofs.Sections.{whole_filled, whole_none}
use Rattle.same_section.proofs.Answers.{first_unusable}
use Rattle.same_section.proofs.same_section.Goals as goal

pub compare-requires : goal.compare-requires
compare-requires c =
    let F = whole_filled c.args.a.now c.in-Some.ensures in
    (F.seen, F.is_section_lem)

pub returns-in-None : goal.returns-in-None
returns-in-None c =
    let a = c.args in
    first_unusable a.a.now a.b.now (whole_none a.a.now c.in-None.ensures)
