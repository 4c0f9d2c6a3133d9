-- `section_file::view_of` meets its contract: each place is the one before it and the length of what stands between.
use borrow.Author.Rules.{rules}
use Rattle.section_file.proofs.Reading.{view_is}
use Rattle.section_file.proofs.view_of.Goals as goal

pub returns : goal.returns
returns c = search (rules, view_is)
