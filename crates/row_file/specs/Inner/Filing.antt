-- What writing the table file of all sums of rows asks, and the bytes that its parts leave.
use Rattle.std.specs.Prelude.{List, [], ◌∷◌, ℕ, ◌+◌, ◌*◌, ◌/◌, ◌%◌, ◌^◌, ◌≤◌, length}
use Rattle.trellis.specs.Bounds.{most_symbols, most_state_bits, most_rows}
use Rattle.rows.specs.Table.{row_width}
use Rattle.rows.specs.Inner.Reduced.{Narrow}

-- rows within the bounds, and a file buffer with room
pub record FileAsked (rows : List ℕ) (s n : ℕ) (file : List ℕ) : Type 0 where
  pub narrow : Narrow (row_width s n) rows
  pub few : length rows ≤ most_rows
  pub states : s ≤ most_state_bits
  pub symbols : n ≤ most_symbols
  pub room : 5 + 4 * 2 ^ length rows ≤ length file

-- the bytes of a word's two states
abbrev pub state_bytes : ℕ → ℕ → ℕ → List ℕ
state_bytes s n x = x / 2 ^ (n + s) ∷ x % 2 ^ s ∷ []
