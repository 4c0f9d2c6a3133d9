-- `takers::take_step` writes the words that lead higher than all before them. The loop keeps the words noted so far, and for each key one
-- more than the highest vertex.
use mathlib.Core.Path.{refl}
use borrow.Author.Rules.{rules}
use Rattle.takers.proofs.Scanning.{takers_none, takers_more}
use Rattle.takers.proofs.take_step.Goals as goal

pub loop-i-init : goal.loop-i-init
loop-i-init c = takers_none _ _ _ _

pub loop-i-preserved : goal.loop-i-preserved
loop-i-preserved c =
    takers_more c.loop-i.invariant c.arc_at-arc.ensures refl c.higher.ensures
    refl c.note-to.ensures (search rules)
