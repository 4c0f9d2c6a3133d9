-- `c_lists::decode_list_numbered` is the listing of several paths, its answer in numbers.
use Rattle.c_lists.proofs.Left.{decode_list_left}
use Rattle.c_lists.proofs.decode_list_numbered.Goals as goal

pub returns : goal.returns
returns c = decode_list_left c.decode_list-answer.ensures c.store.ensures
