-- What the functions on one block leave, over raw lists and numbers. `l` has the block's section at its front.
use Rattle.std.specs.Prelude.{◌≡◌, List, ℕ, ◌/◌, ◌%◌, ◌≤◌, ◌<◌, length, get_or}
use Rattle.trellis.specs.Bounds.{most_states, most_words}
use Rattle.trellis.specs.Layout.{vertex_count_of, root_state, goal_state}
use Rattle.paths.specs.Chain.{unreached}
use Rattle.paths.specs.Inner.Ranked.{distance_unit, top_rank, ranked_left, note_unit}

-- the first g places have what is left to pay in the states of the goals, ranked by these, and none is above the top
pub record GoalsRanked (l left row : List ℕ) (g : ℕ) : Type 0 where
  pub long : length row ≡ most_words
  pub at : (h : ℕ) → h < g → get_or row h 0 ≡ ranked_left (get_or left (goal_state l h) 0) (goal_state l h)
  pub small : (h : ℕ) → h < g → get_or row h 0 ≤ top_rank

-- ranks of the roots that are not above the top, and a note for each state
pub record RootsAsked (l row notes : List ℕ) : Type 0 where
  pub long : length notes ≡ most_states
  pub small : (v : ℕ) → v < vertex_count_of l 0 → get_or row v 0 ≤ top_rank

-- the first v roots have their costs and notes, and a state that is none of them has no path
pub record RootsPut (l row left notes : List ℕ) (v : ℕ) : Type 0 where
  pub long : length left ≡ most_states
  pub notes_long : length notes ≡ most_states
  pub cost : (u : ℕ) → u < v → get_or left (root_state l u) 0 ≡ get_or row u 0 / distance_unit
  pub note : (u : ℕ) → u < v → get_or notes (root_state l u) 0 ≡ get_or row u 0 % note_unit
  pub none : (s : ℕ) → s < most_states → ((u : ℕ) → u < v → root_state l u ≡ s → ⊥)
      → (get_or left s 0 ≡ unreached) × (get_or notes s 0 ≡ unreached)
