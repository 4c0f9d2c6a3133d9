-- `c_rows::merge_rows_numbered` is the merging of generator rows, its answer in numbers.
use Rattle.c_rows.proofs.Left.{merge_rows_left}
use Rattle.c_rows.proofs.merge_rows_numbered.Goals as goal

pub returns : goal.returns
returns c = merge_rows_left c.merge_rows-answer.ensures c.store.ensures
