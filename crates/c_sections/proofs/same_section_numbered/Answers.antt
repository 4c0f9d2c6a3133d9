-- `c_sections::same_section_numbered` is comparing two sections, its answer in numbers.
use Rattle.outcomes.proofs.Numbering.{numbered_by}
use Rattle.c_sections.proofs.same_section_numbered.Goals as goal

pub returns : goal.returns
returns c = numbered_by c.same_section-same.ensures c.store.ensures
