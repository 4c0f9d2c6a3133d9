-- `c_merging::merge_numbered` is merging, its answer in numbers.
use Rattle.c_merging.proofs.Left.{merge_left}
use Rattle.c_merging.proofs.merge_numbered.Goals as goal

pub returns : goal.returns
returns c = merge_left c.merge-answer.ensures c.store.ensures
