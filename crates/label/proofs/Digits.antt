-- A label of n + 1 symbols x is the label x / 4 of n symbols with the symbol x % 4 behind it, as symbols are digits in base 4: symbol t < n
-- of x is symbol t of x / 4, and symbol n of x is x % 4. So whatever holds of labels is shown by dropping the last symbol.
use mathlib.Core.Path.{◌≡◌}
use Prim.Native.Nat.{ℕ, suc, ◌-◌, ◌/◌, ◌%◌, ◌^◌, ◌<◌}
use native.Mathlib.Nat.{pow-suc, mod-lt, div-lt_iff_lt-mul}
use lib.Dec.{lit<}
use Rattle.trellis.specs.Label.{symbol}
use Rattle.trellis.proofs.Digits.{digit_last, digit_drop}

-- the bound of a label with its last symbol dropped, and back
pub drop_short : (n : ℕ) {x : ℕ} → x < 4 ^ suc n → x / 4 < 4 ^ n
drop_short n h = (div-lt_iff_lt-mul (lit< tt)).1 (rw pow-suc at h)

pub join_short : (n : ℕ) {x : ℕ} → x / 4 < 4 ^ n → x < 4 ^ suc n
join_short n h = rw pow-suc ((div-lt_iff_lt-mul (lit< tt)).0 h)

module _ (n : ℕ) where
  pub symbol_small_lem : (t x : ℕ) → symbol n t x < 4
  unfolding symbol
  symbol_small_lem t x = mod-lt (x / 4 ^ (n - suc t)) (lit< tt)

  pub symbol_last : (x : ℕ) → symbol (suc n) n x ≡ x % 4
  unfolding symbol
  symbol_last = digit_last 4 n

  pub symbol_drop : (t x : ℕ) → t < n → symbol (suc n) t x ≡ symbol n t (x / 4)
  unfolding symbol
  symbol_drop = digit_drop 4 n
