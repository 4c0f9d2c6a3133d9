-- `row_depth::before_cut` shifts out the bits behind the cut and shifts back, which no bit leaves.
use Rattle.row_depth.proofs.Finding.{cut_is}
use borrow.Author.Rules.{rules}
use Rattle.row_depth.proofs.before_cut.Goals as goal

pub returns : goal.returns
returns c = cut_is _ _ (search rules)
