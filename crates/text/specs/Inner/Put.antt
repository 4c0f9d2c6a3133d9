-- What a call that puts bytes behind others leaves.
use Rattle.std.specs.Prelude.{◌≡◌, List, ◌++◌, ℕ, ◌≤◌, length, get_or, take, drop}
use Rattle.text.specs.Line.{decimal}

-- the buffer held its first `at` bytes; now it holds, up to `end`, those with vs behind them, as far as there is room; places beyond are
-- unchanged
pub record Put (old : List ℕ) (at : ℕ) (vs : List ℕ) (new : List ℕ) (end : ℕ) : Type 0 where
  pub len : length new ≡ length old
  pub holds : take end new ≡ take (length old) (take at old ++ vs)
  pub grows : at ≤ end
  pub inside : at ≤ length old → end ≤ length old
  pub beyond : (j : ℕ) → end ≤ j → get_or new j 0 ≡ get_or old j 0

-- the decimal digits of x stand in twenty bytes from place `at` on
pub record Spelt (x : ℕ) (out : List ℕ) (at : ℕ) : Type 0 where
  pub len : length out ≡ 20
  pub at_small : at ≤ 19
  pub are : decimal x ≡ drop at out
