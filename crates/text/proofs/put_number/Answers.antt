-- `text::put_number` puts a space and, behind it, the digits that `spell` left at the end of twenty bytes.
use Rattle.text.proofs.Spelling.{number_put}
use Rattle.text.proofs.put_number.Goals as goal

pub returns : goal.returns
returns c = number_put c.spell-first.ensures c.put_byte-end.ensures c.put_bytes.ensures
