-- A cost ranked by a state is the number that the theory has.
use mathlib.Core.Path.{◌≡◌}
use Prim.Native.Nat.{ℕ, ◌+◌, ◌*◌}
use native.Mathlib.Omega.{arith}
use Rattle.paths.specs.Inner.Ranked.{distance_unit, ranked, ranked_left}

pub left_is : (cost s : ℕ) → cost * distance_unit + s ≡ ranked_left cost s
unfolding ranked_left ranked
left_is cost s = omega arith
