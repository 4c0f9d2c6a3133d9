-- The edges of steps, given as numbers one step behind another, written as pairs and as symbols.
use Rattle.std.specs.Prelude.{◌≡◌, ℕ, suc, ◌+◌, ◌*◌, ◌≤◌, length, get_or, take, drop}
use mathlib.Core.List.{List, map, flat_map}
use Rattle.trellis.specs.Bounds.{most_symbols}
use Rattle.trellis.specs.Lists.{sum}
use Rattle.trellis.specs.Layout.{pair_of, symbol_of}
use Rattle.rows.specs.Inner.Edges.{edge_from}

-- how many edges the first t steps have, by counts
abbrev pub edges_to : List ℕ → ℕ → ℕ
edges_to counts t = sum (λ u. get_or counts u 0) 0 t

-- the edges of step t
abbrev pub step_part : List ℕ → List ℕ → ℕ → List ℕ
step_part edges counts t = take (get_or counts t 0) (drop (edges_to counts t) edges)

-- their pairs and symbols, where the vertices at the step's end are below 2 to its dimension
unfoldable pub pairs_from : ℕ → List ℕ → List ℕ
pairs_from dim edges = flat_map pair_of (map (edge_from dim) edges)

unfoldable pub symbols_from : ℕ → List ℕ → List ℕ
symbols_from dim edges = map symbol_of (map (edge_from dim) edges)

abbrev pub step_pairs : List ℕ → List ℕ → List ℕ → ℕ → List ℕ
step_pairs edges counts dims t = pairs_from (get_or dims (suc t) 0) (step_part edges counts t)

abbrev pub step_symbols : List ℕ → List ℕ → List ℕ → ℕ → List ℕ
step_symbols edges counts dims t = symbols_from (get_or dims (suc t) 0) (step_part edges counts t)

-- n steps whose edges stand in the buffer, one step behind another, and room for size numbers for each edge
pub record PiecesAsked (size : ℕ) (edges counts : List ℕ) (n : ℕ) (dims section : List ℕ) (at : ℕ) : Type 0 where
  pub steps : n ≤ most_symbols
  pub inside : edges_to counts n ≤ length edges
  pub places : length counts ≡ 8
  pub dim_places : length dims ≡ 9
  pub short : (t : ℕ) → get_or dims t 0 ≤ 10
  pub room : at + size * edges_to counts n ≤ length section
