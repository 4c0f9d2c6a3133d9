-- The least costs of one section as they lie in two arrays: at place v of the row of depth t the least cost from vertex v. `l` is a list of
-- numbers with a section at its front. `cost` is what a symbol costs at a step, and `number` what it costs to end in a vertex of depth n.
use Rattle.std.specs.Prelude.{◌≡◌, cond, List, ℕ, ◌+◌, ◌-◌, ◌*◌, ◌%◌, ◌≤◌, ◌<◌, eqb, length, get_or}
use Rattle.trellis.specs.Bounds.{most_words}
use Rattle.trellis.specs.Layout.{n_of, vertex_count_of, step_edges}
use Rattle.paths.specs.Inner.Sections.{section_least}
use Rattle.paths.specs.Inner.Ranked.{top_rank, PriceRoom}

-- the row of depth t: even depths take turns in one array, odd depths in the other
unfoldable pub side : ℕ → List ℕ → List ℕ → List ℕ
side t even odd = cond (eqb (t % 2) 0) even odd

-- the array of prices holds the costs of the symbols, four a step
pub record Priced (l prices : List ℕ) (cost : ℕ → ℕ → ℕ) : Type 0 where
  pub at : (t a : ℕ) → t < n_of l → a < 4 → get_or prices (4 * t + a) 0 ≡ cost t a

-- the row of depth t holds the least costs from its vertices
pub record LeastRow (l : List ℕ) (cost : ℕ → ℕ → ℕ) (number : ℕ → ℕ) (t : ℕ) (row : List ℕ) : Type 0 where
  pub at : (v : ℕ) → v < vertex_count_of l t → get_or row v 0 ≡ section_least (step_edges l) cost top_rank number (n_of l - t) t v

-- prices for every step, and numbers of which no two add up to one that wraps
pub record SweepAsked (l prices even odd : List ℕ) : Type 0 where
  pub room : PriceRoom prices
  pub even_long : length even ≡ most_words
  pub odd_long : length odd ≡ most_words
  pub small : (v : ℕ) → v < vertex_count_of l (n_of l) → get_or (side (n_of l) even odd) v 0 ≤ top_rank

-- from the row of depth n the row of depth 0 follows, whatever the symbols cost
pub record Swept (l prices even odd new_even new_odd : List ℕ) : Type 0 where
  pub even_long : length new_even ≡ most_words
  pub odd_long : length new_odd ≡ most_words
  pub small : (v : ℕ) → v < vertex_count_of l 0 → get_or new_even v 0 ≤ top_rank
  pub row : (cost : ℕ → ℕ → ℕ) (number : ℕ → ℕ) → Priced l prices cost → LeastRow l cost number (n_of l) (side (n_of l) even odd)
      → LeastRow l cost number 0 new_even
