-- `text::spell` finds the digits from the last one on. The loop's invariant: the digits of the number are those of what is left of it and
-- those behind. The measure is the place.
use Rattle.text.proofs.Spelling.{Left}
use Rattle.text.proofs.spell.Given as goal

abbrev pub invariant-loop-rest : goal.invariant-loop-rest
invariant-loop-rest l = Left l.x l.out l.at l.rest

abbrev pub decreases-loop-rest : goal.decreases-loop-rest
decreases-loop-rest l = l.at
