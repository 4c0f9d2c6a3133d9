-- `lacking::first_lacking` meets its contract. It leaves at once where an earlier word settles it; else the loop keeps that the runs of the
-- words before k with i's ending have j's ending, and that the words before l with j's ending are in runs before that of k.
use Prim.Native.Nat.{◌-◌}
use Rattle.lacking.proofs.Lacking.{InLacking}
use Rattle.lacking.proofs.first_lacking.Given as goal

abbrev pub invariant-loop-k : goal.invariant-loop-k
invariant-loop-k l = InLacking l.w l.starts l.firsts l.next l.i l.j l.k l.l

abbrev pub decreases-loop-k : goal.decreases-loop-k
decreases-loop-k l = l.w - l.k
