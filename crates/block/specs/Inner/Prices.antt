-- What the symbols of a block add to a rank, as it lies in an array.
use Rattle.std.specs.Prelude.{◌≡◌, List, ℕ, ◌+◌, ◌*◌, ◌<◌, get_or}
use Rattle.trellis.specs.Comparing.{symbol_cost}
use Rattle.paths.specs.Inner.Ranked.{PriceRoom, ranked_cost}

-- the array holds what the symbols add, four a step: their costs, ranked by the symbols
pub record Prices (n received erased : ℕ) (prices : List ℕ) : Type 0 where
  pub room : PriceRoom prices
  pub at : (t a : ℕ) → t < n → a < 4 → get_or prices (4 * t + a) 0 ≡ ranked_cost n (symbol_cost n received erased) t a
