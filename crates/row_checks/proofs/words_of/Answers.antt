-- `row_checks::words_of` shifts 1.
use borrow.Author.Rules.{rules}
use Rattle.row_checks.proofs.Checks.{words_is}
use Rattle.row_checks.proofs.words_of.Goals as goal

pub returns : goal.returns
returns c = words_is _ (search rules)
