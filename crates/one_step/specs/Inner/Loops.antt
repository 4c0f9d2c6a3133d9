-- What the functions on the steps of a section ask and leave, over raw lists and numbers.
use Rattle.std.specs.Prelude.{◌≡◌, Bool, ◌||◌, List, ℕ, ◌-◌, ◌≤◌, ◌<◌, leb, eqb, length, take}
use Rattle.trellis.specs.Bounds.{most_paths, most_symbols}
use Rattle.trellis.specs.Lists.{keep}
use Rattle.trellis.specs.Own.{Edge}
use Rattle.paths.specs.Chain.{unreached}
use Rattle.paths.specs.Inner.Ranked.{PriceRoom}
use Rattle.ranking.specs.Inner.Kept.{admit_all, keep_best}
use Rattle.dearest.specs.Inner.Items.{cost_in, Kept}
use Rattle.least_rows.specs.Inner.Rows.{rows_long}
use Rattle.one_step.specs.Inner.Steps.{stepped_from}

-- k is in bounds, and there are prices and rows for every step
pub record StepRoom (k t : ℕ) (rows prices : List ℕ) : Type 0 where
  pub some : 0 < k
  pub few : k ≤ most_paths
  pub inside : t < most_symbols
  pub rows_are : length rows ≡ rows_long
  pub priced : PriceRoom prices

-- xs have come one after another to the first count of old; r are kept now
pub record Streamed (k count : ℕ) (old xs new : List ℕ) (r worst : ℕ) : Type 0 where
  pub kept : Kept k new r worst
  pub is : take r new ≡ admit_all cost_in k (take count old) xs

-- those of xs that cost no more than the limit
unfoldable pub limited : ℕ → List ℕ → List ℕ
limited limit xs = keep (λ y. leb (cost_in y) limit) xs

-- k are kept within the limit, or all that has a path is within it
unfoldable pub is_enough : ℕ → ℕ → ℕ → Bool
is_enough count k limit = eqb count k || eqb limit (unreached - 1)

-- the k best of xs are kept, r of them
pub record Stepped (k : ℕ) (xs new : List ℕ) (r worst : ℕ) : Type 0 where
  pub kept : Kept k new r worst
  pub is : take r new ≡ keep_best cost_in k xs

-- n steps from the first `have` of old on: r are kept then
pub record Gone (edges : ℕ → List Edge) (rows prices : List ℕ) (k n have : ℕ) (old new : List ℕ) (r : ℕ) : Type 0 where
  pub long : length new ≡ most_paths
  pub most : r ≤ k
  pub is : take r new ≡ stepped_from edges rows prices k n 0 (take have old)
