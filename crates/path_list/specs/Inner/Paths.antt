-- What listing the paths of a frame leaves that has a path and its cost table.
use Rattle.std.specs.Prelude.{◌≡◌, ℕ, length}
use mathlib.Core.List.{List, map, flat_map}
use Rattle.trellis.specs.Lists.{over}
use Rattle.paths.specs.Chain.{path_distance}
use Rattle.frame.specs.Frame.{Frame, word_distance}
use Rattle.path_list.specs.Listing.{list_of}

-- the best paths stand in front of the buffers, r of them
pub record PathsListed (f : Frame) (paths r : ℕ) (distances new_distances labels new_labels goals new_goals : List ℕ) : Type 0 where
  pub many : r ≡ length (list_of f paths)
  pub distances_are : new_distances ≡ over (map (path_distance (word_distance f) 0) (list_of f paths)) distances
  pub labels_are : new_labels ≡ over (flat_map (map (λ w. w.label)) (list_of f paths)) labels
  pub goals_are : new_goals ≡ over (flat_map (map (λ w. w.goal)) (list_of f paths)) goals
