-- The words of the kept paths, found again by back pointers and written one path behind another, over raw lists and numbers.
use Rattle.std.specs.Prelude.{◌≡◌, ◌⊎◌, List, ℕ, ◌+◌, ◌*◌, ◌≤◌, ◌<◌, length, get_or}
use Rattle.trellis.specs.Bounds.{most_paths}
use Rattle.trellis.specs.Word.{word_at}
use Rattle.dearest.specs.Inner.Items.{cost_in, code_in}
use Rattle.codes.specs.Inner.Codes.{code_root}
use Rattle.beginnings.specs.Inner.Trails.{trail}

-- the words of a slot behind all blocks are written from a place on; `first` is the state where they begin, which is in no label and no
-- goal
pub record ReadPath (back : List ℕ) (blocks slot at : ℕ) (labels new_labels goals new_goals : List ℕ) : Type 0 where
  pub long_labels : length new_labels ≡ length labels
  pub long_goals : length new_goals ≡ length goals
  pub label_at : (first i : ℕ) → i < blocks → get_or new_labels (at + i) 0 ≡ (word_at (trail back first blocks slot) i).label
  pub goal_at : (first i : ℕ) → i < blocks → get_or new_goals (at + i) 0 ≡ (word_at (trail back first blocks slot) i).goal
  pub other_labels : (i : ℕ) → (i < at) ⊎ (at + blocks ≤ i) → get_or new_labels i 0 ≡ get_or labels i 0
  pub other_goals : (i : ℕ) → (i < at) ⊎ (at + blocks ≤ i) → get_or new_goals i 0 ≡ get_or goals i 0

-- the first count slots have their own places in their codes
pub record Placed (slots : List ℕ) (count : ℕ) : Type 0 where
  pub long : length slots ≡ most_paths
  pub at : (q : ℕ) → q < count → code_root (code_in (get_or slots q 0)) < most_paths

-- the first r paths are written, one behind another, in the order of these slots
pub record PathsRead (slots back : List ℕ) (blocks : ℕ) (distances new_distances labels new_labels goals new_goals : List ℕ) (r : ℕ)
    : Type 0 where
  pub long_distances : length new_distances ≡ length distances
  pub long_labels : length new_labels ≡ length labels
  pub long_goals : length new_goals ≡ length goals
  pub distance_at : (q : ℕ) → q < r → get_or new_distances q 0 ≡ cost_in (get_or slots q 0)
  pub label_at : (first q i : ℕ) → q < r → i < blocks
      → get_or new_labels (q * blocks + i) 0 ≡ (word_at (trail back first blocks (code_root (code_in (get_or slots q 0)))) i).label
  pub goal_at : (first q i : ℕ) → q < r → i < blocks
      → get_or new_goals (q * blocks + i) 0 ≡ (word_at (trail back first blocks (code_root (code_in (get_or slots q 0)))) i).goal
  pub other_distances : (i : ℕ) → r ≤ i → get_or new_distances i 0 ≡ get_or distances i 0
  pub other_labels : (i : ℕ) → r * blocks ≤ i → get_or new_labels i 0 ≡ get_or labels i 0
  pub other_goals : (i : ℕ) → r * blocks ≤ i → get_or new_goals i 0 ≡ get_or goals i 0
