-- `read_back::read_back` meets its contract: where the slice is no section nothing is written, and else its words are.
use Rattle.whole_section.proofs.Sections.{whole_filled}
use Rattle.read_back.proofs.Outcomes.{ends_unusable}
use Rattle.read_back.proofs.read_back.Goals as goal

pub put_words-requires : goal.put_words-requires
put_words-requires c =
    let F = whole_filled c.args.section.now c.in-Some.ensures in
    (F.seen, F.is_section_lem)

pub returns-in-None : goal.returns-in-None
returns-in-None c =
    let a = c.args in
    ends_unusable a.section.now a.file.now c.in-None.ensures
