-- `text_buffer::put_whole` copies the text where it fits, and else leaves the buffer as it was.
use Rattle.text_buffer.proofs.Buffer.{whole_short, whole_put}
use Rattle.text_buffer.proofs.put_whole.Goals as goal

pub returns-then-text-length : goal.returns-then-text-length
returns-then-text-length c = whole_short c.args.made.now c.args.text.now c.if-text-length.true

pub returns : goal.returns
returns c = whole_put c.args.made.now c.args.text.now c.if-text-length.false c.put_bytes.ensures
