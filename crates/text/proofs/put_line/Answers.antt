-- `text::put_line` puts the word, then the numbers one by one, then the newline byte. The loop's invariant: the word and the numbers passed
-- are put.
use Rattle.text.proofs.Putting.{pieces_start, pieces_next, line_put}
use Rattle.text.proofs.put_line.Goals as goal

pub loop-number-init : goal.loop-number-init
loop-number-init c = pieces_start

pub loop-number-preserved : goal.loop-number-preserved
loop-number-preserved c = pieces_next 0 c.loop-number.invariant c.loop-number-test.true c.put_number-end.ensures

pub returns : goal.returns
returns c = line_put c.put_bytes-end.ensures c.loop-number.invariant c.loop-number-test.false c.put_byte.ensures
