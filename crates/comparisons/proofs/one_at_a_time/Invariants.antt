-- `comparisons::one_at_a_time` counts at most one for each of eight symbols.
use Prim.Native.Nat.{◌≤◌}
use Rattle.comparisons.proofs.one_at_a_time.Given as goal

abbrev pub invariant-loop-t : goal.invariant-loop-t
invariant-loop-t l = l.distance ≤ l.t
