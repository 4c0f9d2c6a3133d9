-- Words as rows of bits: s state bits, n symbols of one bit, s state bits, the first highest in row and state. So a row is a number below
-- 2 ^ (s + n + s). Everything here computes.
use Rattle.std.specs.Prelude.{List, map, Bool, ◌&&◌, ℕ, zero, suc, ◌+◌, ◌-◌, ◌*◌, ◌/◌, ◌%◌, ◌^◌, length, get_or, leb}
use Rattle.trellis.specs.Word.{Word, word}
use Rattle.trellis.specs.Bounds.{most_symbols, most_state_bits, most_rows}
use Rattle.trellis.specs.Lists.{first, within}
use Rattle.rows.specs.Sums.{sums}

-- how many bits a row has
abbrev pub row_width : ℕ → ℕ → ℕ
row_width s n = (s + n) + s

-- the last k bits of x as a packed label of k symbols
unfoldable pub spread : ℕ → ℕ → ℕ
spread zero x = 0
spread (suc k) x = spread k (x / 2) * 4 + x % 2

-- the word that a row of bits stands for
abbrev pub word_of : ℕ → ℕ → ℕ → Word
word_of s n x = word (x / 2 ^ (n + s)) (spread n (x / 2 ^ s)) (x % 2 ^ s)

-- the table whose words are the sums of the rows
unfoldable pub table_of : ℕ → ℕ → List ℕ → List Word
table_of s n rows = map (word_of s n) (sums rows)

-- how many bits stand behind depth t
abbrev pub cut_at : ℕ → ℕ → ℕ → ℕ
cut_at s n t = (n - t) + s

-- 0 to 4 state bits, 1 to 8 symbols, 1 to 10 rows
unfoldable pub sizes_fit : ℕ → ℕ → ℕ → Bool
sizes_fit s n count = within 0 most_state_bits s && (within 1 most_symbols n && within 1 most_rows count)

-- the first row that has bits above its width, or the number of rows where none has
unfoldable pub first_wide : ℕ → List ℕ → ℕ
first_wide width rows = first (λ j. leb (2 ^ width) (get_or rows j 0)) (length rows)
