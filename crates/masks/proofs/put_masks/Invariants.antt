-- `masks::put_masks` goes from block to block. The loop's invariant: the masks of the blocks passed are written, and no others.
use Rattle.masks.specs.Inner.Masks.{MasksPut}
use Rattle.masks.proofs.put_masks.Given as goal

abbrev pub invariant-loop-b : goal.invariant-loop-b
invariant-loop-b l = MasksPut l.received l.erased l.labels l.initial.masks l.masks l.b
