-- `parity::each_row` fills an array from the front: the loop keeps that those of the first b rows stand.
use mathlib.Core.Path.{◌≡◌}
use Prim.Native.Nat.{ℕ, ◌<◌}
use lib.ListN.{length, get_or}
use Rattle.parity.proofs.each_row.Given as goal

abbrev pub invariant-loop-b : goal.invariant-loop-b
invariant-loop-b g l = ((k : ℕ) → k < l.b → goal.F-post g l.f (get_or l.rows k 0) (get_or l.values k 0)) × (length l.values ≡ 16)
