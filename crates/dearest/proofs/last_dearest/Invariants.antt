-- `dearest::last_dearest` passes over the items. The loop's invariant: of those passed, the last dearest is the one found, with its cost.
use Rattle.dearest.proofs.LastDearest.{Looked}
use Rattle.dearest.proofs.last_dearest.Given as goal

abbrev pub invariant-loop-i : goal.invariant-loop-i
invariant-loop-i l = Looked l.items l.count l.found.at l.found.cost l.i
