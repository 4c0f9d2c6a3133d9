-- What the functions on one step ask and leave, over raw lists and numbers: `pairs` and `symbols` have the edges of the step at their
-- fronts.
use Rattle.std.specs.Prelude.{◌≡◌, List, ℕ, suc, ◌+◌, ◌*◌, ◌≤◌, ◌<◌, length, get_or}
use Rattle.trellis.specs.Bounds.{most_words}
use Rattle.trellis.specs.Lists.{run}
use Rattle.trellis.specs.Own.{Edge}
use Rattle.trellis.specs.Section.{leaving}
use Rattle.trellis.specs.Layout.{n_of, vertex_count_of, edges_before}
use Rattle.paths.specs.Inner.Costs.{min_all}
use Rattle.paths.specs.Inner.Ranked.{top_rank, PriceRoom}
use Rattle.edges.specs.Inner.Edges.{edge_in}
use Rattle.lowering.specs.Inner.Rows.{Priced, LeastRow}

-- the first v places of a row of this width have this value
pub record Cleared (width value : ℕ) (row : List ℕ) (v : ℕ) : Type 0 where
  pub long : length row ≡ width
  pub at : (u : ℕ) → u < v → get_or row u 0 ≡ value

-- the edges are there, lead from places to places of the rows by symbols that have prices, and no sum wraps
pub record StepAsked (pairs symbols : List ℕ) (count : ℕ) (prices behind row : List ℕ) : Type 0 where
  pub few : count ≤ most_words
  pub pairs_in : 2 * count ≤ length pairs
  pub symbols_in : count ≤ length symbols
  pub prices_in : 4 ≤ length prices
  pub behind_long : length behind ≡ most_words
  pub row_long : length row ≡ most_words
  pub from_small : (k : ℕ) → k < count → get_or pairs (2 * k) 0 < most_words
  pub symbol_small : (k : ℕ) → k < count → get_or symbols k 0 < 4
  pub to_small : (k : ℕ) → k < count → get_or pairs (2 * k + 1) 0 < most_words
  pub price_small : (a : ℕ) → get_or prices a 0 ≤ top_rank
  pub behind_small : (k : ℕ) → k < count → get_or behind (get_or pairs (2 * k + 1) 0) 0 ≤ top_rank

-- what an edge gives
abbrev pub through : List ℕ → List ℕ → Edge → ℕ
through prices behind e = get_or prices e.symbol 0 + get_or behind e.to 0

-- each place has the least of what it had and of what the edges of its vertex give
pub record Lowered (pairs symbols : List ℕ) (count : ℕ) (prices behind old new : List ℕ) : Type 0 where
  pub long : length new ≡ most_words
  pub at : (v : ℕ) → v < most_words
      → get_or new v 0 ≡ min_all (get_or old v 0) (through prices behind) (leaving v (run (edge_in pairs symbols) 0 count))

-- the row behind depth t has numbers small enough, and the steps before have `before` edges
pub record RowAsked (l : List ℕ) (t before : ℕ) (prices behind row : List ℕ) : Type 0 where
  pub inside : t < n_of l
  pub before_is : before ≡ edges_before l t
  pub room : PriceRoom prices
  pub behind_long : length behind ≡ most_words
  pub row_long : length row ≡ most_words
  pub small : (v : ℕ) → v < vertex_count_of l (suc t) → get_or behind v 0 ≤ top_rank

-- the row of depth t follows from the row behind it
pub record RowDone (l : List ℕ) (t : ℕ) (prices behind row : List ℕ) : Type 0 where
  pub long : length row ≡ most_words
  pub small : (v : ℕ) → v < vertex_count_of l t → get_or row v 0 ≤ top_rank
  pub done : (cost : ℕ → ℕ → ℕ) (number : ℕ → ℕ) → Priced l prices cost → LeastRow l cost number (suc t) behind
      → LeastRow l cost number t row
