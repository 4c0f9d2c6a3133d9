-- The rank of a number among keys is the count of those below it.
use mathlib.Core.Path.{◌≡◌, refl}
use mathlib.Core.Bool.{Bool, true, false, cond}
use mathlib.Core.List.{List}
use Prim.Native.Nat.{ℕ, ◌+◌}
use native.Mathlib.Omega.{arith}
use lib.Dec.{ltb}
use Rattle.std.specs.Prelude.{count_by}
use Rattle.std.proofs.lemmas.List.Recursion.{is_count_by}
use Rattle.trellis.specs.Lists.{one_if, rank}

pub rank_counts : (x : ℕ) (keys : List ℕ) → rank x keys ≡ count_by (λ key. ltb key x) keys
unfolding rank
rank_counts x = is_count_by (rank x) (λ key. ltb key x) refl (λ key keys. step (ltb key x) (rank x keys))
  where
    step : (t : Bool) (r : ℕ) → one_if t + r ≡ cond t (1 + r) r
    step true r = refl
    step false r = omega arith
