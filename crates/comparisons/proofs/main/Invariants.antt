-- `comparisons::main` goes through eight masks, and makes all comparisons under each.
use mathlib.Core.Path.{◌≡◌}
use Prim.Native.Nat.{◌≤◌, ◌*◌}
use Rattle.comparisons.proofs.main.Given as goal

abbrev pub invariant-loop-erased : goal.invariant-loop-erased
invariant-loop-erased l = (l.comparisons ≡ 65536 * l.erased-index) × (l.sum ≤ 524288 * l.erased-index) × (l.otherwise ≤ 65536 * l.erased-index)
