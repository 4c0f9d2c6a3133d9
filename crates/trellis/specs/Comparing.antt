-- Two labels of n symbols compared under an erasure mask of n bits, the first symbol highest: what a symbol costs, the distance of the
-- labels, and the mask of the symbols that differ. Everything here computes, for general n. The cost of a symbol is fixed here and nowhere
-- else.
use Rattle.std.specs.Prelude.{◌≡◌, Bool, cond, not, ◌&&◌, ℕ, suc, ◌-◌, ◌*◌, ◌/◌, ◌%◌, ◌^◌, ◌<◌, eqb}
use Rattle.trellis.specs.Lists.{one_if, sum}
use Rattle.trellis.specs.Label.{symbol}

-- whether a mask of n bits, the first symbol highest, marks symbol t; an erasure mask marks what is erased
unfoldable pub marked_at : ℕ → ℕ → ℕ → Bool
marked_at n t mask = eqb (mask / 2 ^ (n - suc t) % 2) 1

-- how many of the n symbols it marks: the number of ones in the mask
unfoldable pub marked_in : ℕ → ℕ → ℕ
marked_in n mask = sum (λ t. one_if (marked_at n t mask)) 0 n

-- what an erased symbol costs, whatever it is: it is evidence of nothing (document 02, request 1; document 01 had 1)
abbrev pub erasure_cost : ℕ
erasure_cost = 0

-- what the symbol a costs against r, if an erased symbol costs c: an unerased one costs 1 where they differ
abbrev pub cost_over : ℕ → Bool → ℕ → ℕ → ℕ
cost_over c erased r a = cond erased c (one_if (not (eqb a r)))

module _ (n x erased : ℕ) where
  -- the cost of the symbol a as symbol t, if an erased symbol costs c
  unfoldable pub symbol_cost_by : ℕ → ℕ → ℕ → ℕ
  symbol_cost_by c t a = cost_over c (marked_at n t erased) (symbol n t x) a

  -- the distance of y from x, if an erased symbol costs c: the cost of all its symbols
  unfoldable pub distance_by : ℕ → ℕ → ℕ
  distance_by c y = sum (λ t. symbol_cost_by c t (symbol n t y)) 0 n

  -- what a symbol costs: an erased one `erasure_cost`
  abbrev pub symbol_cost : ℕ → ℕ → ℕ
  symbol_cost = symbol_cost_by erasure_cost

  -- the distance of y from x: the number of unerased symbols that differ
  abbrev pub label_distance : ℕ → ℕ
  label_distance = distance_by erasure_cost

  -- whether symbol t differs and is not erased
  unfoldable pub differs_at : ℕ → ℕ → Bool
  differs_at y t = not (marked_at n t erased) && not (eqb (symbol n t y) (symbol n t x))

  -- the mask of the differing, unerased symbols, the first symbol highest
  unfoldable pub differing : ℕ → ℕ
  differing y = sum (λ t. one_if (differs_at y t) * 2 ^ (n - suc t)) 0 n

  -- what comparing x and y yields (document 02, request 5)
  pub record Compared (y mask distance : ℕ) : Type 0 where
    pub mask_is : mask ≡ differing y
    pub marks : (t : ℕ) → t < n → marked_at n t mask ≡ differs_at y t
    pub distance_is : distance ≡ label_distance y
    -- "the number of ones in the mask is the distance"
    pub ones : marked_in n mask ≡ distance
