-- `outer_depths::put_depth` marks the states, numbers them, and writes each word's number.
use Rattle.layout.proofs.Marks.{bits_of}
use Rattle.outer_depths.proofs.OuterRows.{row_put}
use borrow.Author.Rules.{rules}
use Rattle.outer_depths.proofs.put_depth.Goals as goal

pub number-numbers-requires : goal.number-numbers-requires
number-numbers-requires c = (search rules, bits_of c.mark-marks.ensures)

pub returns : goal.returns
returns c = row_put c.requires.0 c.mark-marks.ensures c.number-numbers.ensures c.put_row.ensures
