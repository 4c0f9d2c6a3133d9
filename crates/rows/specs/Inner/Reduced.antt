-- Parity checks in reduced form, which hold the reduced echelon form of the rows too, and how one row is taken up.
use Rattle.std.specs.Prelude.{◌≡◌, ◌⊎◌, cond, List, [], ◌∷◌, map, ℕ, suc, ◌/◌, ◌%◌, ◌^◌, ◌<◌, length, get_or, ltb}
use Rattle.trellis.specs.Lists.{each}
use Rattle.rows.specs.Sums.{◌⊕◌, chosen, sum_of, IsSum}

-- bit p of x, 0 being the lowest
unfoldable pub bit_at : ℕ → ℕ → ℕ
bit_at p x = x / 2 ^ p % 2

-- rows of N bits
abbrev pub Narrow : ℕ → List ℕ → Type 0
Narrow N rows = (j : ℕ) → j < length rows → get_or rows j 0 < 2 ^ N

-- a parity check whose syndromes are themselves numbers of N bits: sums have syndrome 0, and each number differs from its syndrome by a sum
pub record Checks (N : ℕ) (rows columns : List ℕ) : Type 0 where
  pub wide : length columns ≡ N
  pub kills : (x : ℕ) → IsSum rows x → sum_of columns x ≡ 0
  pub covers : (x : ℕ) → x < 2 ^ N → IsSum rows (x ⊕ sum_of columns x)

-- the check of no rows: each number is its own syndrome
unfoldable pub no_rows : ℕ → List ℕ
no_rows N = each (λ m. 2 ^ m) N

-- y with z added if bit p is set
unfoldable pub cleared : ℕ → ℕ → ℕ → ℕ
cleared p z y = y ⊕ chosen (bit_at p y) z

-- z added to the columns that have bit p: z is the syndrome of one more row, and p a bit of z
unfoldable pub add_row : ℕ → ℕ → List ℕ → List ℕ
add_row p z columns = map (cleared p z) columns

-- the reduced form: column m is 2 ^ m, or below that, and then m is a pivot, where no column has a bit
pub record Reduced (columns : List ℕ) : Type 0 where
  pub low : (m : ℕ) → m < length columns → (get_or columns m 0 ≡ 2 ^ m) ⊎ (get_or columns m 0 < 2 ^ m)
  pub free : (m p : ℕ) → p < length columns → get_or columns p 0 < 2 ^ p → bit_at p (get_or columns m 0) ≡ 0

-- the rows that such columns stand for, one for each pivot: column m with bit m set; at is the place of the first column
unfoldable pub rows_from : ℕ → List ℕ → List ℕ
rows_from at [] = []
rows_from at (h ∷ columns) = cond (ltb h (2 ^ at)) ((2 ^ at ⊕ h) ∷ rows_from (suc at) columns) (rows_from (suc at) columns)

-- the reduced rows of a check, by ascending pivot
abbrev pub reduced_rows : List ℕ → List ℕ
reduced_rows columns = rows_from 0 columns

-- a check in reduced form, of rows that may depend on one another
pub record Spans (N : ℕ) (rows columns : List ℕ) : Type 0 where
  pub checks : Checks N rows columns
  pub reduced : Reduced columns

-- rows that are themselves in reduced form, and their check
pub record Echelon (N : ℕ) (rows columns : List ℕ) : Type 0 where
  pub spans : Spans N rows columns
  pub are : rows ≡ reduced_rows columns
