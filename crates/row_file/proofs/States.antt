-- The states of a word of s + n + s bits: the first is what stands above the other n + s bits, the last is the last s bits.
-- Both have s bits, at most 4, so they fit a byte.
use mathlib.Core.Path.{◌≡◌, subst}
use Prim.Native.Nat.{ℕ, ◌+◌, ◌/◌, ◌^◌, ◌≤◌, ◌<◌}
use native.Mathlib.Omega.{arith}
use lib.Pow.{pow_mono, shr_lt}
use Rattle.rows.specs.Table.{row_width}

pub root_byte : (s n x : ℕ) → s ≤ 4 → x < 2 ^ row_width s n → x / 2 ^ (n + s) < 256
root_byte s n x l h =
    let e : row_width s n ≡ s + (n + s) = omega arith in
    omega (arith, shr_lt {n = x} s (n + s) (subst (λ m. x < 2 ^ m) e h), pow_mono {i = s} {j = 4} l)
