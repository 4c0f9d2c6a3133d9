-- One edge as a number, by shifts. Nothing is lost where the number fits in 16 bits: (2 * from + symbol) * 2 ^ dim is below 2 ^ 16, and so
-- is 2 * from + symbol, since 2 ^ dim is at least 1.
use mathlib.Core.Path.{◌≡◌, ap, ◌∙◌}
use Prim.Native.Nat.{ℕ, ◌+◌, ◌*◌, ◌%◌, ◌^◌, ◌≤◌, ◌<◌}
use native.Mathlib.Omega.{arith}
use native.Mathlib.Nat.{mod-eq_of_lt, mul_comm, mul-le-mul_left, mul-one}
use lib.Pow.{pow_pos}
use Rattle.rows.specs.Inner.Edges.{edge_number}

module _ (dim from symbol to : ℕ) (small : edge_number dim from symbol to < 2 ^ 16) where
  whole : (2 * from + symbol) * 2 ^ dim + to ≡ edge_number dim from symbol to
  unfolding edge_number
  whole = ap (λ k. (k + symbol) * 2 ^ dim + to) (mul_comm 2 from)

  pub front_fits : 2 * from + symbol < 65536
  front_fits =
      let l : (2 * from + symbol) * 1 ≤ (2 * from + symbol) * 2 ^ dim = mul-le-mul_left (2 * from + symbol) (pow_pos dim) in
      omega (arith, whole, mul-one (2 * from + symbol))

  pub number_is_lem : (2 * from + symbol) * 2 ^ dim % 65536 + to ≡ edge_number dim from symbol to
  number_is_lem = ap (λ k. k + to) (mod-eq_of_lt (omega (arith, whole))) ∙ whole
