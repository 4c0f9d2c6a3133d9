-- The slots in front of a block and behind it, over raw lists and numbers. `l` has the block's section at its front.
use Rattle.std.specs.Prelude.{◌≡◌, List, ℕ, length}
use Rattle.trellis.specs.Bounds.{most_paths, most_words}
use Rattle.trellis.specs.Layout.{n_of, vertex_count_of, roots_place, goals_place, step_edges}
use Rattle.paths.specs.Inner.Ranked.{PriceRoom}
use Rattle.block.specs.Inner.Prices.{Prices}
use Rattle.least_rows.specs.Inner.Rows.{rows_long, RowsPut}
use Rattle.one_step.specs.Inner.Loops.{Gone}
use Rattle.beginnings.specs.Inner.Entering.{state_from, AllEntered, Leavable, Left}

-- working room: the prices, the two rows of a sweep, the rows of a section, the items inside it
pub record Workspace (prices even odd rows items : List ℕ) : Type 0 where
  pub room : PriceRoom prices
  pub even_long : length even ≡ most_words
  pub odd_long : length odd ≡ most_words
  pub rows_are : length rows ≡ rows_long
  pub items_long : length items ≡ most_paths

-- the slots went through the section: its symbols cost what the received label and the mask say, its rows follow from what is left to pay
-- behind it, the slots entered, and n steps were made
pub record Through (l : List ℕ) (received mask : ℕ) (left : List ℕ) (k have : ℕ) (slots prices rows items new : List ℕ) (count : ℕ)
    : Type 0 where
  pub priced : Prices (n_of l) received mask prices
  pub rows_are : RowsPut l prices left rows
  pub entered : AllEntered l (roots_place l) (vertex_count_of l 0) slots items have
  pub gone : Gone (step_edges l) rows prices k (n_of l) have items new count

-- where they do, they can leave it
pub record Passable (l : List ℕ) (received mask : ℕ) (left : List ℕ) (k have : ℕ) (slots : List ℕ) : Type 0 where
  pub leavable : (prices rows items new : List ℕ) (count : ℕ) → Through l received mask left k have slots prices rows items new count
      → Leavable l (goals_place l) new count

-- and they left it
pub record Passed (l : List ℕ) (received mask : ℕ) (left : List ℕ) (b k have : ℕ) (slots back new_slots new_back : List ℕ) (count : ℕ)
    : Type 0 where
  pub prices : List ℕ
  pub rows : List ℕ
  pub items : List ℕ
  pub new : List ℕ
  pub through : Through l received mask left k have slots prices rows items new count
  pub left_by : Left (state_from l (goals_place l)) new b count new_slots back new_back
