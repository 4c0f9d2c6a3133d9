-- If an erased symbol costs c, a label's distance is c for each erased symbol and, whatever c is, 1 for each unerased one that differs: so
-- it is symbol by symbol, and sums add up. The first part is the same for every label.
use mathlib.Core.Path.{◌≡◌, ap, ◌∙◌}
use mathlib.Core.Bool.{Bool, true, false}
use Prim.Native.Nat.{ℕ, ◌+◌, ◌*◌}
use native.Mathlib.Nat.{mul-one, mul-zero}
use native.Mathlib.Omega.{arith}
use Rattle.trellis.specs.Lists.{one_if, sum}
use Rattle.trellis.specs.Label.{symbol}
use Rattle.trellis.specs.Comparing.{marked_at, marked_in, erasure_cost, cost_over, symbol_cost_by, distance_by}
use Rattle.trellis.proofs.Lists.{sum_add, sum_mul, sum_eq}

cost_over_lem : (c : ℕ) (erased : Bool) (r a : ℕ) → cost_over c erased r a ≡ c * one_if erased + cost_over erasure_cost erased r a
cost_over_lem c true r a = omega (arith, mul-one c)
cost_over_lem c false r a = omega (arith, mul-zero c)

pub distance_by_lem : (n received mask c label : ℕ)
    → distance_by n received mask c label ≡ c * marked_in n mask + distance_by n received mask erasure_cost label
unfolding distance_by symbol_cost_by marked_in
distance_by_lem n received mask c label =
    sum_eq (cost c) (λ t. c * erased t + cost erasure_cost t) 0 n
    (λ t a b. cost_over_lem c (marked_at n t mask) (symbol n t received) (symbol n t label))
    ∙ sum_add (λ t. c * erased t) (cost erasure_cost) 0 n
    ∙ ap (λ x. x + sum (cost erasure_cost) 0 n) (sum_mul c erased 0 n)
  where
    cost : ℕ → ℕ → ℕ
    cost c t = cost_over c (marked_at n t mask) (symbol n t received) (symbol n t label)

    erased : ℕ → ℕ
    erased t = one_if (marked_at n t mask)
