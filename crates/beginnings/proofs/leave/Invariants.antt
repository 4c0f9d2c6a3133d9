-- `beginnings::leave` goes over the items. The loop's invariant: those passed have left, each with its back pointer, and no other back
-- pointer has changed.
use Prim.Native.Nat.{◌≤◌}
use Rattle.beginnings.specs.Inner.Entering.{state_from, Left}
use Rattle.beginnings.proofs.leave.Given as goal

abbrev pub invariant-loop-j : goal.invariant-loop-j
invariant-loop-j l = (l.j ≤ l.count) × Left (state_from l.s l.goals) l.items l.b l.j l.slots l.initial.back l.back
