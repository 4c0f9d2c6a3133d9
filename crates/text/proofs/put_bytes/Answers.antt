-- `text::put_bytes` puts its bytes one by one. The loop's invariant: those passed are put.
use Rattle.text.proofs.Putting.{pieces_start, pieces_next, bytes_all}
use Rattle.text.proofs.put_bytes.Goals as goal

pub loop-byte-init : goal.loop-byte-init
loop-byte-init c = pieces_start

pub loop-byte-preserved : goal.loop-byte-preserved
loop-byte-preserved c = pieces_next 0 c.loop-byte.invariant c.loop-byte-test.true c.put_byte-end.ensures

pub returns : goal.returns
returns c = bytes_all c.loop-byte.invariant c.loop-byte-test.false
