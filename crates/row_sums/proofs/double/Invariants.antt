-- `row_sums::double` writes one number after another behind the others: the loop keeps which stand.
use Prim.Native.Nat.{◌≤◌}
use Rattle.row_sums.specs.Inner.Doubled.{Doubled}
use Rattle.row_sums.proofs.double.Given as goal

abbrev pub invariant-loop-j : goal.invariant-loop-j
invariant-loop-j l = Doubled l.place l.w l.c l.initial.row l.j l.row × (l.j ≤ l.w)
