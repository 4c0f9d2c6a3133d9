-- `c_decoding::decode_numbered` is decoding, its answer in numbers.
use Rattle.c_decoding.proofs.Left.{decode_left}
use Rattle.c_decoding.proofs.decode_numbered.Goals as goal

pub returns : goal.returns
returns c = decode_left c.decode-answer.ensures c.store.ensures
