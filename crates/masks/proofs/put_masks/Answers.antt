-- `masks::put_masks` goes from block to block. The loop's invariant: the masks of the blocks passed are written, and no others.
use borrow.Author.Rules.{rules}
use Rattle.masks.proofs.Masks.{masks_start, masks_more, masks_end}
use Rattle.masks.proofs.put_masks.Goals as goal

pub loop-b-init : goal.loop-b-init
loop-b-init c = masks_start

pub loop-b-preserved : goal.loop-b-preserved
loop-b-preserved c = masks_more c.requires c.loop-b.invariant c.loop-b-test.true c.compare.ensures

pub returns : goal.returns
returns c = masks_end c.loop-b.invariant (search rules) (search rules)
