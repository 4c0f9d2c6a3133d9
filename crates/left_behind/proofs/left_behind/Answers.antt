-- `left_behind::left_behind` returns `ends` behind the last block; behind any other it copies the next block's row of the cost table.
use borrow.Author.Rules.{rules}
use Rattle.left_behind.proofs.Rows.{behind_last, behind_row}
use Rattle.left_behind.proofs.left_behind.Goals as goal

pub returns-then-b-blocks : goal.returns-then-b-blocks
returns-then-b-blocks c = search (rules, behind_last)

pub returns : goal.returns
returns c = behind_row (search rules) c.requires.2 c.copy_from_slice.ensures.after
