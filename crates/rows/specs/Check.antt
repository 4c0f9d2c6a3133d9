-- Parity checks by columns, as document 004 writes them: column m belongs to bit m, the lowest being bit 0, and the syndrome of x is the
-- sum of the columns at its set bits.
use Rattle.std.specs.Prelude.{◌≡◌, ◌↔◌, List, ℕ, ◌*◌, ◌/◌, ◌^◌, ◌<◌}
use Rattle.rows.specs.Sums.{sum_of, IsSum}

-- columns of a parity check for the rows: of the numbers of N bits just the sums of rows have syndrome 0
pub record ParityCheck (N : ℕ) (rows columns : List ℕ) : Type 0 where
  pub tells : (x : ℕ) → x < 2 ^ N → (sum_of columns x ≡ 0) ↔ IsSum rows x

-- the partial syndrome of a word at a cut with c bits behind it: only the bits before the cut count
abbrev pub syndrome_at : List ℕ → ℕ → ℕ → ℕ
syndrome_at columns c x = sum_of columns (x / 2 ^ c * 2 ^ c)
