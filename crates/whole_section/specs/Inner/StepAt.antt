-- The edges of a step as the code finds them.
use Rattle.std.specs.Prelude.{List, ℕ, ◌-◌, ◌≤◌, ◌<◌, length, take, drop}
use Rattle.edges.specs.Inner.Edges.{edge_in, EdgesSmall}

-- count edges of one step: in bounds, and in the order of the vertices where they start
pub record StepEdges (pairs symbols : List ℕ) (count : ℕ) : Type 0 where
  pub small : EdgesSmall pairs symbols count
  pub froms_rise : (j k : ℕ) → j ≤ k → k < count → (edge_in pairs symbols j).from ≤ (edge_in pairs symbols k).from

-- a list from a place on
abbrev pub part_from : ℕ → List ℕ → List ℕ
part_from at l = take (length l - at) (drop at l)

-- the same where the edges' pairs and symbols begin at two places of a list
pub record StepAt (s : List ℕ) (pairs symbols count : ℕ) : Type 0 where
  pub pairs_in : pairs ≤ length s
  pub symbols_in : symbols ≤ length s
  pub edges : StepEdges (part_from pairs s) (part_from symbols s) count
