-- Items as numbers in an array of `most_paths`: a cost above 32 bits that are the caller's. Of those that come, the k best are kept, in the
-- order in which they came.
use Rattle.std.specs.Prelude.{◌≡◌, List, ℕ, suc, ◌+◌, ◌*◌, ◌/◌, ◌%◌, ◌≤◌, ◌<◌, length, get_or, take}
use Rattle.trellis.specs.Bounds.{most_paths}
use Rattle.ranking.specs.Several.{insert_by, sort_by}
use Rattle.ranking.specs.Inner.Kept.{admit}

abbrev pub cost_unit : ℕ
cost_unit = 4294967296

abbrev pub cost_in : ℕ → ℕ
cost_in x = x / cost_unit

abbrev pub code_in : ℕ → ℕ
code_in x = x % cost_unit

abbrev pub item_of : ℕ → ℕ → ℕ
item_of cost code = cost * cost_unit + code

-- the last dearest of the first count items stands at r
pub record LastDearest (items : List ℕ) (count r : ℕ) : Type 0 where
  pub inside : r < count
  pub before : (j : ℕ) → j < r → cost_in (get_or items j 0) ≤ cost_in (get_or items r 0)
  pub behind : (j : ℕ) → r < j → j < count → cost_in (get_or items j 0) < cost_in (get_or items r 0)

-- the first count items are kept, k at most; where k are, `worst` is the place of the last dearest
pub record Kept (k : ℕ) (items : List ℕ) (count worst : ℕ) : Type 0 where
  pub most : count ≤ k
  pub long : length items ≡ most_paths
  pub dearest : k ≤ count → LastDearest items count worst

-- the item x has come
pub record Admitted (k count : ℕ) (old : List ℕ) (x : ℕ) (new : List ℕ) (new_count worst : ℕ) : Type 0 where
  pub kept : Kept k new new_count worst
  pub is : take new_count new ≡ admit cost_in k (take count old) x

-- x stands among the first items, which were sorted, in front of those that cost as much or more
pub record Inserted (count : ℕ) (old : List ℕ) (x : ℕ) (new : List ℕ) : Type 0 where
  pub long : length new ≡ most_paths
  pub is : take (suc count) new ≡ insert_by cost_in x (take count old)

-- the first count items, sorted
pub record Sorted (items : List ℕ) (count : ℕ) (sorted : List ℕ) : Type 0 where
  pub long : length sorted ≡ most_paths
  pub is : take count sorted ≡ sort_by cost_in (take count items)
