-- Rows of bits as numbers, and their sums modulo 2. A sum is named by a choice of rows, itself a number, whose lowest bit is for the first
-- row; choice 0 is the empty sum. Everything here computes.
use Rattle.std.specs.Prelude.{◌≡◌, Bool, List, [], ◌∷◌, ℕ, zero, suc, ◌/◌, ◌%◌, ◌^◌, ◌<◌, length, get_or, take, ltb, eqb}
use Rattle.std.specs.Int.Bits.{bit_xor}
use Rattle.trellis.specs.Lists.{each, first, is_in, ascending}

-- two rows added bit by bit modulo 2
infix 60 ◌⊕◌
abbrev pub ◌⊕◌ : ℕ → ℕ → ℕ
x ⊕ y = bit_xor x y

-- the row where the bit is set, else nothing
unfoldable pub chosen : ℕ → ℕ → ℕ
chosen zero row = 0
chosen (suc b) row = row

-- the sum of the chosen rows
unfoldable pub sum_of : List ℕ → ℕ → ℕ
sum_of [] choice = 0
sum_of (row ∷ rows) choice = chosen (choice % 2) row ⊕ sum_of rows (choice / 2)

-- how many choices there are
abbrev pub choices : List ℕ → ℕ
choices rows = 2 ^ length rows

-- x is a sum of rows, the empty sum included
pub record IsSum (rows : List ℕ) (x : ℕ) : Type 0 where
  pub choice : ℕ
  pub inside : choice < choices rows
  pub is : x ≡ sum_of rows choice

-- all sums of the rows, ascending, each once
unfoldable pub sums : List ℕ → List ℕ
sums rows = ascending ltb (each (sum_of rows) (choices rows))

-- whether row j is a sum of the rows before it; a row of zeros is
unfoldable pub is_dependent : List ℕ → ℕ → Bool
is_dependent rows j = is_in eqb (get_or rows j 0) (sums (take j rows))

-- the first row that is a sum of those before it, or the number of rows where none is
unfoldable pub first_dependent : List ℕ → ℕ
first_dependent rows = first (is_dependent rows) (length rows)
