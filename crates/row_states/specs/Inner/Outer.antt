-- An outer depth of the map: what numbering words by their states asks and leaves.
use Rattle.std.specs.Prelude.{◌≡◌, List, map, ℕ, ◌+◌, ◌/◌, ◌%◌, ◌^◌, ◌≤◌, ◌<◌, length, get_or}
use Rattle.trellis.specs.Lists.{rank}
use Rattle.rows.specs.Sums.{sum_of, sums}
use Rattle.rows.specs.Inner.Reduced.{Narrow}
use Rattle.parity.specs.Inner.Front.{Front}

-- the first states of the rows, before the last c bits, and their last states of s bits
abbrev pub roots_of : ℕ → List ℕ → List ℕ
roots_of c rows = map (λ r. r / 2 ^ c) rows

abbrev pub goals_of : ℕ → List ℕ → List ℕ
goals_of s rows = map (λ r. r % 2 ^ s) rows

pub record OuterAsked (values map : List ℕ) (place : ℕ) : Type 0 where
  pub narrow : Narrow 4 values
  pub few : length values ≤ 10
  pub room : place + 2 ^ length values ≤ length map

-- the map has the numbers of all sums of the states from place on; all else is as before. The states are keys, 2 ^ dim of them
pub record OuterPut (values old : List ℕ) (place : ℕ) (new keys : List ℕ) (dim : ℕ) : Type 0 where
  pub len : length new ≡ length old
  pub row : (i : ℕ) → i < 2 ^ length values → get_or new (place + i) 0 ≡ rank (sum_of values i) (sums values)
  pub front : (i : ℕ) → i < place → get_or new i 0 ≡ get_or old i 0
  pub behind : (i : ℕ) → place + 2 ^ length values ≤ i → get_or new i 0 ≡ get_or old i 0
  pub states : Front (sums values) keys
  pub counted : 2 ^ dim ≡ length (sums values)
  pub few : dim ≤ 4
