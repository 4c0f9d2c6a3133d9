-- `comparisons::compare_all` makes the comparisons, each of which counts 1, and adds at most 8 to the sum and 1 to the other count.
use mathlib.Core.Path.{◌≡◌}
use Prim.Native.Nat.{◌≤◌, ◌*◌}
use Rattle.comparisons.proofs.compare_all.Given as goal

abbrev pub invariant-loop-x : goal.invariant-loop-x
invariant-loop-x l = (l.comparisons ≡ l.x) × (l.sum ≤ 8 * l.x) × (l.otherwise ≤ l.x)
