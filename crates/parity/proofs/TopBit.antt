-- The highest set bit of z: below it are the bits that its leading zeros leave of 16, and itself.
use mathlib.Core.Path.{◌≡◌, subst}
use Prim.Native.Nat.{ℕ, suc, ◌+◌, ◌-◌, ◌^◌, ◌≤◌, ◌<◌}
use native.Mathlib.Omega.{arith}
use lib.Count.{count_leading_zeros}
use Rattle.std.proofs.lemmas.Nat.{leading_top}
use Rattle.parity.specs.Inner.Steps.{Top}

pub top_bit : (z : ℕ) → 0 < z → z < 65536 → Top z (15 - count_leading_zeros 16 z)
top_bit z some small = go (leading_top 16 z some small)
  where
    go : ((j : ℕ) × (count_leading_zeros 16 z + suc j ≡ 16) × (2 ^ j ≤ z) × (z < 2 ^ suc j)) → Top z (15 - count_leading_zeros 16 z)
    go (j, e, l, m) =
        let p : j ≡ 15 - count_leading_zeros 16 z = omega arith in
        subst (λ p. Top z p) p (record { inside = omega arith; least = l; most = m })
