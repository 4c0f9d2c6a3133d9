-- Costs along the edges of one section. `cost t a` is the cost of the symbol a at step t, and `number v` what it costs to end in vertex v:
-- neither is fixed here.
use Rattle.std.specs.Prelude.{List, [], ◌∷◌, ℕ}
use Rattle.trellis.specs.Own.{Edge}
use Rattle.trellis.specs.Section.{Path, stop, along, leaving}
use Rattle.paths.specs.Inner.Graph.{Graph}
use Rattle.paths.specs.Inner.Costs.{least}

-- `edges t` are the edges of step t, in their order; its paths are trellis's `paths_from edges`
abbrev pub section_graph : (ℕ → List Edge) → Graph Edge Path
section_graph edges = record { out = λ t v. leaving v (edges t); to = λ e. e.to; onto = along; ends = λ v. stop v ∷ [] }

abbrev pub edge_cost : (ℕ → ℕ → ℕ) → ℕ → Edge → ℕ
edge_cost cost t e = cost t e.symbol

module _ (edges : ℕ → List Edge) (cost : ℕ → ℕ → ℕ) (top : ℕ) (number : ℕ → ℕ) where
  -- the least cost of k steps from vertex v of depth t
  unfoldable pub section_least : ℕ → ℕ → ℕ → ℕ
  section_least k t v = least (section_graph edges) (edge_cost cost) top number k t v
