-- The two outer depths of the map: what writing their rows asks and leaves.
use Rattle.std.specs.Prelude.{◌≡◌, List, ℕ, suc, ◌+◌, ◌*◌, ◌<◌, ◌≤◌, length, get_or}
use Rattle.trellis.specs.Bounds.{most_symbols}
use Rattle.trellis.specs.Lists.{each, rank}
use Rattle.trellis.specs.Inner.Write.{Wrote}
use Rattle.layout.specs.Inner.States.{occurring, Few, StatesMarked}

-- the row of an outer depth: each word's state by its number among those that occur
abbrev pub state_row : List ℕ → List ℕ
state_row states = each (λ i. rank (get_or states i 0) (occurring states)) (length states)

pub record RowPut (states old : List ℕ) (place : ℕ) (new marks : List ℕ) (count : ℕ) : Type 0 where
  pub marked : StatesMarked states (length states) marks
  pub counted : count ≡ length (occurring states)
  pub wrote : Wrote old place (state_row states) new (place + length states)

-- a map of n + 1 rows, and places for the vertex counts of as many depths
pub record OuterAsked (roots goals : List ℕ) (n : ℕ) (map inner : List ℕ) : Type 0 where
  pub few_roots : Few roots
  pub few_goals : Few goals
  pub aimed : length goals ≡ length roots
  pub some : 0 < n
  pub short : n ≤ most_symbols
  pub room : suc n * length roots ≤ length map
  pub nine : length inner ≡ 9

-- a row stands at its place, and nothing else in the map has changed
pub record OuterPlaced (roots goals : List ℕ) (n : ℕ) (old new : List ℕ) : Type 0 where
  pub root_row : (i : ℕ) → i < length roots → get_or new i 0 ≡ rank (get_or roots i 0) (occurring roots)
  pub goal_row : (i : ℕ) → i < length roots → get_or new (n * length roots + i) 0 ≡ rank (get_or goals i 0) (occurring goals)
  pub between : (j : ℕ) → length roots ≤ j → j < n * length roots → get_or new j 0 ≡ get_or old j 0
  pub behind : (j : ℕ) → suc n * length roots ≤ j → get_or new j 0 ≡ get_or old j 0
  pub len : length new ≡ length old

pub record OuterPut (roots goals : List ℕ) (n : ℕ) (old new inner root_marks goal_marks counts : List ℕ) : Type 0 where
  pub placed : OuterPlaced roots goals n old new
  pub roots_marked : StatesMarked roots (length roots) root_marks
  pub goals_marked : StatesMarked goals (length goals) goal_marks
  pub root_count : get_or counts 0 0 ≡ length (occurring roots)
  pub goal_count : get_or counts n 0 ≡ length (occurring goals)
  pub inner_count : (t : ℕ) → 0 < t → t < n → get_or counts t 0 ≡ get_or inner t 0
  pub nine : length counts ≡ 9
