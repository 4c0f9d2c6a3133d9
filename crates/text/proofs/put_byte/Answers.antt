-- `text::put_byte` stores the byte where there is room, and leaves the text as it is where there is none.
use Rattle.text.proofs.Putting.{put_one, put_full}
use Rattle.text.proofs.put_byte.Goals as goal

pub returns-then-at-text : goal.returns-then-at-text
returns-then-at-text c = put_one c.args.text.now c.args.at c.args.byte c.if-at-text.true

pub returns : goal.returns
returns c = put_full c.args.text.now c.args.at c.args.byte c.if-at-text.false
