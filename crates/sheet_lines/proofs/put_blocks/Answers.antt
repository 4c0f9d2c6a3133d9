-- `sheet_lines::put_blocks` puts the lines one behind another. The loop's invariant: the lines of the records passed are put.
use Rattle.records.specs.Inner.Blank.{blank}
use Rattle.text.proofs.Putting.{pieces_start, pieces_next, pieces_all}
use Rattle.sheet_lines.proofs.put_blocks.Goals as goal

pub loop-block-init : goal.loop-block-init
loop-block-init c = pieces_start

pub loop-block-preserved : goal.loop-block-preserved
loop-block-preserved c = pieces_next blank c.loop-block.invariant c.loop-block-test.true c.put_block-end.ensures

pub returns : goal.returns
returns c = pieces_all c.loop-block.invariant c.loop-block-test.false
