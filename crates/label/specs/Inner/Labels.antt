-- Labels as the code of this crate handles them: a symbol put behind a label, labels told from other numbers, labels in order, labels held
-- against each other. Everything here is for general n, but that `appended` keeps eight symbols, as many as a label of two bytes has.
use Rattle.std.specs.Prelude.{◌≡◌, Bool, true, ◌↔◌, ℕ, ◌^◌, ◌<◌, ltb}
use Rattle.trellis.specs.Label.{symbol}

-- the first symbol in which x and y differ is smaller in x
pub record Earlier (n x y : ℕ) : Type 0 where
  pub at : ℕ
  pub inside : at < n
  pub before : (t : ℕ) → t < at → symbol n t x ≡ symbol n t y
  pub smaller : symbol n at x < symbol n at y

-- before tells whether x comes before y: as numbers, and as labels of any n symbols that hold both
pub record InOrder (x y : ℕ) (before : Bool) : Type 0 where
  pub as_numbers : before ≡ ltb x y
  pub as_symbols : (n : ℕ) → x < 4 ^ n → y < 4 ^ n → (before ≡ true) ↔ Earlier n x y
