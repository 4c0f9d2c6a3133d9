-- What taking up rows and reading off the reduced rows leave.
use Rattle.std.specs.Prelude.{◌≡◌, List, ℕ, suc, ◌^◌, ◌≤◌, ◌<◌, length, take}
use Rattle.rows.specs.Sums.{first_dependent}
use Rattle.rows.specs.Inner.Reduced.{add_row, reduced_rows}
use Rattle.rows.specs.Inner.Growing.{Grown}

-- p is the place of the highest set bit of z, one of 16
pub record Top (z p : ℕ) : Type 0 where
  pub inside : p < 16
  pub least : 2 ^ p ≤ z
  pub most : z < 2 ^ suc p

-- columns with a row of syndrome z taken up, which by syndrome 0 changes nothing
pub data TakenUp (z : ℕ) (old new : List ℕ) : Type 0 where
  same : z ≡ 0 → new ≡ old → TakenUp z old new
  more : (p : ℕ) → Top z p → new ≡ add_row p z old → TakenUp z old new

-- the check of the rows, and the first that is a sum of those before it
pub record Checked (rows columns : List ℕ) (first : ℕ) : Type 0 where
  pub is : first ≡ first_dependent rows
  pub sixteen : length columns ≡ 16
  pub grown : first ≡ length rows → Grown 16 rows (length rows) columns

-- the first count are the reduced rows of the check
pub record Basis (columns rows : List ℕ) (count : ℕ) : Type 0 where
  pub are : take count rows ≡ reduced_rows columns
  pub few : count ≤ 16
  pub sixteen : length rows ≡ 16
