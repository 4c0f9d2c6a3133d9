-- `fields::word_count` meets its contract: it reads bytes 3 and 4.
use Rattle.fields.proofs.Reading.{count_is_lem}
use Rattle.fields.proofs.word_count.Goals as goal

pub returns : goal.returns
returns c = count_is_lem _ c.byte_at.ensures c.byte_at-2.ensures c.two_bytes.ensures
