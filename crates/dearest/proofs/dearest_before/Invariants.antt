-- `dearest::dearest_before` goes back from the place at which cheaper ones begin. The loop's invariant: those from i on cost less than the
-- bound, and none costs more. So an item that costs as much as the bound is the last dearest.
use Rattle.dearest.specs.Inner.Loops.{CheaperFrom}
use Rattle.dearest.proofs.dearest_before.Given as goal

abbrev pub invariant-loop-i : goal.invariant-loop-i
invariant-loop-i l = CheaperFrom l.items l.count l.i l.cost
