-- What check 10 leaves where it is passed: every buffer is long enough. And a number of paths that check 13 lets pass.
use Rattle.std.specs.Prelude.{List, ℕ, ◌*◌, ◌≤◌, ◌<◌, length}
use Rattle.trellis.specs.Bounds.{most_paths, costs_a_block}
use Rattle.room.specs.Room.{needed_to_decode, needed_to_list}

-- no buffer is too short for decoding
pub record RoomToDecode (indices costs labels goals masks : List ℕ) : Type 0 where
  pub none_short : needed_to_decode (length indices) (length costs) (length labels) (length goals) (length masks) ≤ 0
  pub for_costs : costs_a_block * length indices ≤ length costs
  pub for_labels : length indices ≤ length labels
  pub for_goals : length indices ≤ length goals
  pub for_masks : length indices ≤ length masks

-- the number of paths is in bounds
pub record Few (paths : ℕ) : Type 0 where
  pub some : 0 < paths
  pub few : paths ≤ most_paths

-- no buffer is too short for listing so many paths
pub record RoomToList (indices : List ℕ) (paths : ℕ) (costs distances labels goals : List ℕ) : Type 0 where
  pub none_short : needed_to_list (length indices) paths (length costs) (length distances) (length labels) (length goals) ≤ 0
  pub for_costs : costs_a_block * length indices ≤ length costs
  pub for_distances : paths ≤ length distances
  pub for_labels : paths * length indices ≤ length labels
  pub for_goals : paths * length indices ≤ length goals
