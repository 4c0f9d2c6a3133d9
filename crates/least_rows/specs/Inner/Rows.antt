-- The least costs from all vertices of a block's section, depth after depth in one array: at place most_words·t + v that from vertex v of
-- depth t to the end of the chain. `l` has the block's section at its front.
use Rattle.std.specs.Prelude.{◌≡◌, List, ℕ, suc, ◌+◌, ◌-◌, ◌*◌, ◌/◌, ◌≤◌, ◌<◌, length, get_or}
use Rattle.trellis.specs.Bounds.{most_symbols, most_words}
use Rattle.trellis.specs.Layout.{n_of, vertex_count_of, step_edges, goal_state}
use Rattle.paths.specs.Chain.{unreached}
use Rattle.paths.specs.Inner.Ranked.{distance_unit, top_rank}
use Rattle.paths.specs.Inner.Sections.{section_least}
use Rattle.passes.specs.Inner.Blocks.{Costs}

-- a row for each depth
abbrev pub rows_long : ℕ
rows_long = suc most_symbols * most_words

abbrev pub row_at : List ℕ → ℕ → ℕ → ℕ
row_at rows t v = get_or rows (most_words * t + v) 0

-- the first `count` ranks of a row are not above the top, and depth t has a row
pub record SaveAsked (t count : ℕ) (row rows : List ℕ) : Type 0 where
  pub deep : t ≤ most_symbols
  pub few : count ≤ most_words
  pub row_long : length row ≡ most_words
  pub long : length rows ≡ rows_long
  pub small : (v : ℕ) → v < count → get_or row v 0 ≤ top_rank

-- the first v distances of a row of ranks stand in the row of depth t, and the rows of deeper depths are as they were
pub record RowSaved (t : ℕ) (row old new : List ℕ) (v : ℕ) : Type 0 where
  pub long : length new ≡ rows_long
  pub saved : (u : ℕ) → u < v → row_at new t u ≡ get_or row u 0 / distance_unit
  pub kept : (i : ℕ) → most_words * suc t ≤ i → get_or new i 0 ≡ get_or old i 0

-- `cost` is what a symbol costs at a step, and `rest` what is left to pay behind the block in a state
pub record LeastRows (l : List ℕ) (cost : ℕ → ℕ → ℕ) (rest : ℕ → ℕ) (rows : List ℕ) : Type 0 where
  pub at : (t v : ℕ) → t ≤ n_of l → v < vertex_count_of l t
      → row_at rows t v ≡ section_least (step_edges l) cost unreached (λ g. rest (goal_state l g)) (n_of l - t) t v

-- the rows follow from the prices of the symbols and from what is left to pay behind the block
pub record RowsPut (l prices left rows : List ℕ) : Type 0 where
  pub long : length rows ≡ rows_long
  pub least : (cost : ℕ → ℕ → ℕ) (rest : ℕ → ℕ) → Costs l prices left cost rest → LeastRows l cost rest rows
