-- What merging the inner depths of a table asks and leaves: the smallest depth at which the table is not rectangular, or the vertices of
-- every inner depth.
use Rattle.std.specs.Prelude.{◌≡◌, Option, Some, None, List, ℕ, suc, ◌+◌, ◌*◌, ◌≤◌, ◌<◌, length}
use Rattle.trellis.specs.Word.{Word, RectangularAt}
use Rattle.trellis.specs.Own.{vertex_of, vertex_count}
use Rattle.runs.specs.Inner.Runs.{Tells}
use Rattle.runs.specs.Inner.Cuts.{ending_at}
use Rattle.depth_runs.specs.Inner.Rows.{at, RowAt, Small}
use Rattle.depths.specs.Inner.Words.{words, Held}

-- ---- one depth

-- the row tells the endings at depth t apart
pub record EndingRow (n : ℕ) (table : List Word) (t : ℕ) (row : List ℕ) : Type 0 where
  pub small : Small (length table) row
  pub tells : Tells (length table) (ending_at n table t) (at row)

pub record DepthAsked (n t : ℕ) (roots labels goals row map : List ℕ) : Type 0 where
  pub held : Held n roots labels goals
  pub inner : 0 < t
  pub deep : t < n
  pub ends : EndingRow n (words roots labels goals) (suc t) row
  pub room : t * length roots + length roots ≤ length map

-- the table is rectangular at depth t, the map has the depth's row, and count is how many vertices there are
pub record DepthMerged (n : ℕ) (table : List Word) (t : ℕ) (old new : List ℕ) (count : ℕ) : Type 0 where
  pub rectangular : RectangularAt n t table
  pub row : RowAt (t * length table) (length table) (vertex_of n table t) old new
  pub counted : count ≡ vertex_count n table t

pub record DepthRefused (n : ℕ) (table : List Word) (t : ℕ) (old new : List ℕ) : Type 0 where
  pub fails : RectangularAt n t table → ⊥
  pub kept : new ≡ old

abbrev pub DepthOutcome : ℕ → List Word → ℕ → List ℕ → List ℕ → Option ℕ → Type 0
DepthOutcome n table t old new (Some count) = DepthMerged n table t old new count
DepthOutcome n table t old new None = DepthRefused n table t old new

-- the row now tells the endings at depth t apart
pub record DepthDone (n t : ℕ) (table : List Word) (row old new : List ℕ) (r : Option ℕ) : Type 0 where
  pub ends : EndingRow n table t row
  pub outcome : DepthOutcome n table t old new r

-- ---- all inner depths

-- the map has room for a row for each depth below n
pub record Inner (n : ℕ) (roots labels goals map counts : List ℕ) : Type 0 where
  pub held : Held n roots labels goals
  pub room : n * length roots ≤ length map
  pub nine : length counts ≡ 9

-- at every depth from t on: the table is rectangular, the map has the vertices, and counts has how many there are
pub record InnerMerged (n : ℕ) (table : List Word) (t : ℕ) (map counts : List ℕ) : Type 0 where
  pub rectangular : (u : ℕ) → t ≤ u → u < n → RectangularAt n u table
  pub vertices : (u i : ℕ) → t ≤ u → u < n → i < length table → at map (u * length table + i) ≡ vertex_of n table u i
  pub counted : (u : ℕ) → t ≤ u → u < n → at counts u ≡ vertex_count n table u

-- u is the smallest depth from t on at which the table is not rectangular
pub record FirstRefused (n : ℕ) (table : List Word) (t u : ℕ) : Type 0 where
  pub from : t ≤ u
  pub inner : u < n
  pub fails : RectangularAt n u table → ⊥
  pub sooner : (v : ℕ) → t ≤ v → v < u → RectangularAt n v table

-- none, or the smallest depth
abbrev pub InnerOutcome : ℕ → List Word → ℕ → List ℕ → List ℕ → Option ℕ → Type 0
InnerOutcome n table t map counts None = InnerMerged n table t map counts
InnerOutcome n table t map counts (Some u) = FirstRefused n table t u

-- only the rows of inner depths were written, in the map and in the counts
pub record InnerDone (n : ℕ) (table : List Word) (old_map map old_counts counts : List ℕ) (r : Option ℕ) : Type 0 where
  pub found : InnerOutcome n table 1 map counts r
  pub before : (j : ℕ) → j < length table → at map j ≡ at old_map j
  pub behind : (j : ℕ) → n * length table ≤ j → at map j ≡ at old_map j
  pub len : length map ≡ length old_map
  pub root_count : at counts 0 ≡ at old_counts 0
  pub later_counts : (j : ℕ) → n ≤ j → at counts j ≡ at old_counts j
  pub nine : length counts ≡ 9
