-- `whole_section::section_of` meets its contract, by what `usable_at` answers and where the section ends.
use borrow.Author.Rules.{rules}
use Rattle.whole_section.proofs.Sections.{whole_by_filter}
use Rattle.whole_section.proofs.section_of.Goals as goal

pub returns : goal.returns
returns c = whole_by_filter c.args.s.now _ c.usable_at.ensures c.filter.ensures (λ x b p. search rules)
