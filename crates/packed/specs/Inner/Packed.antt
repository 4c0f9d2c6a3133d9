-- A symbol put behind a label, and labels told from other numbers, for general n, but that `appended` keeps eight symbols, as many as a
-- label of two bytes has.
use Rattle.std.specs.Prelude.{ℕ, ◌+◌, ◌*◌, ◌%◌, ◌^◌, ◌<◌}
use Rattle.trellis.specs.Label.{symbol}

-- the symbol s behind the label; a ninth symbol pushes the first one out
unfoldable pub appended : ℕ → ℕ → ℕ
appended label s = (label * 4 + s % 4) % 4 ^ 8

-- x is the label of n symbols below q, symbol by symbol
pub record Packed (q n x : ℕ) : Type 0 where
  pub short : x < 4 ^ n
  pub below : (t : ℕ) → t < n → symbol n t x < q
