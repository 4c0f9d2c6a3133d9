-- The whole map of a table of sums: what putting it asks and leaves.
use Rattle.std.specs.Prelude.{◌≡◌, List, ℕ, suc, ◌+◌, ◌*◌, ◌^◌, ◌≤◌, ◌<◌, length, get_or}
use Rattle.trellis.specs.Bounds.{most_symbols, most_state_bits, most_rows}
use Rattle.trellis.specs.Own.{keys, vertex_of, vertex_count}
use Rattle.rows.specs.Table.{row_width, table_of, cut_at}
use Rattle.rows.specs.Inner.Reduced.{Narrow, Echelon}
use Rattle.rows.specs.Inner.Numbering.{number, numbers_below}
use Rattle.parity.specs.Inner.Front.{Front}
use Rattle.row_depth.specs.Inner.Depth.{syndrome_of}

-- rows in reduced form within the bounds, with their check, of which all sums are w words, and a map with room for these at every depth
pub record MapAsked (s n : ℕ) (rows columns : List ℕ) (w : ℕ) (map : List ℕ) : Type 0 where
  pub echelon : Echelon 16 rows columns
  pub narrow : Narrow (row_width s n) rows
  pub few : length rows ≤ most_rows
  pub states : s ≤ most_state_bits
  pub some : 0 < n
  pub symbols : n ≤ most_symbols
  pub words : w ≡ 2 ^ length rows
  pub room : suc n * w ≤ length map

-- at each inner depth below end the map has the numbers of all syndromes, and dims the dimension; all else is as before, 0 in dims
pub record InnerPut (s n : ℕ) (rows columns : List ℕ) (w : ℕ) (old new dims : List ℕ) (end : ℕ) : Type 0 where
  pub len : length new ≡ length old
  pub row : (t i : ℕ) → 0 < t → t < end → i < w → get_or new (t * w + i) 0 ≡ number (syndrome_of columns rows (cut_at s n t)) i
  pub counted : (t : ℕ) → 0 < t → t < end → 2 ^ get_or dims t 0 ≡ numbers_below (syndrome_of columns rows (cut_at s n t)) w
  pub few : (t : ℕ) → get_or dims t 0 ≤ 10
  pub behind : (i : ℕ) → n * w ≤ i → get_or new i 0 ≡ get_or old i 0
  pub nine : length dims ≡ 9

-- counts are the powers of 2 by dims
pub record CountsOf (dims counts : List ℕ) : Type 0 where
  pub are : (t : ℕ) → t < 9 → get_or counts t 0 ≡ 2 ^ get_or dims t 0
  pub nine : length counts ≡ 9

-- the map in front, and what is known of the depths: dimensions, counts, and the states of the outer ones
pub record MapPut (s n : ℕ) (rows : List ℕ) (w : ℕ) (old new dims counts roots goals : List ℕ) : Type 0 where
  pub len : length new ≡ length old
  pub vertices : (t i : ℕ) → t ≤ n → i < w → get_or new (t * w + i) 0 ≡ vertex_of n (table_of s n rows) t i
  pub behind : (j : ℕ) → suc n * w ≤ j → get_or new j 0 ≡ get_or old j 0
  pub dimension : (t : ℕ) → t ≤ n → 2 ^ get_or dims t 0 ≡ vertex_count n (table_of s n rows) t
  pub few : (t : ℕ) → get_or dims t 0 ≤ 10
  pub counted : (t : ℕ) → t ≤ n → get_or counts t 0 ≡ vertex_count n (table_of s n rows) t
  pub dim_places : length dims ≡ 9
  pub count_places : length counts ≡ 9
  pub root_states : Front (keys n (table_of s n rows) 0) roots
  pub goal_states : Front (keys n (table_of s n rows) n) goals
