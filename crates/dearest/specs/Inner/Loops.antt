-- What the loops over an array of items leave, over raw lists and numbers.
use Rattle.std.specs.Prelude.{◌≡◌, ◌⊎◌, List, ℕ, suc, ◌≤◌, ◌<◌, length, get_or}
use Rattle.dearest.specs.Inner.Items.{cost_in}

-- of two places with the costs of their items, r is the one of the dearer, the later one where they cost the same
pub record Later (at here i there r cost : ℕ) : Type 0 where
  pub is : ((r ≡ at) × (cost ≡ here) × (there < here)) ⊎ ((r ≡ i) × (cost ≡ there) × (here ≤ there))

-- of the first count items, one at least, none costs more than `cost`, and those from place `at` on cost less
pub record CheaperFrom (items : List ℕ) (count at cost : ℕ) : Type 0 where
  pub some : 0 < count
  pub inside : at ≤ count
  pub most : (j : ℕ) → j < count → cost_in (get_or items j 0) ≤ cost
  pub behind : (j : ℕ) → at ≤ j → j < count → cost_in (get_or items j 0) < cost

-- the item at one place is out: those behind it have moved up
pub record ClosedUp (at : ℕ) (old : List ℕ) (count : ℕ) (new : List ℕ) : Type 0 where
  pub long : length new ≡ length old
  pub front : (j : ℕ) → j < at → get_or new j 0 ≡ get_or old j 0
  pub moved : (j : ℕ) → at ≤ j → suc j < count → get_or new j 0 ≡ get_or old (suc j) 0

-- the first that costs as much as x or more stands at r, or r is count
pub record FirstNotCheaper (items : List ℕ) (count x r : ℕ) : Type 0 where
  pub inside : r ≤ count
  pub before : (j : ℕ) → j < r → cost_in (get_or items j 0) < cost_in x
  pub at : r < count → cost_in x ≤ cost_in (get_or items r 0)

-- there is room at one place: those from there on have moved back
pub record OpenedUp (at : ℕ) (old : List ℕ) (count : ℕ) (new : List ℕ) : Type 0 where
  pub long : length new ≡ length old
  pub front : (j : ℕ) → j < at → get_or new j 0 ≡ get_or old j 0
  pub moved : (j : ℕ) → at ≤ j → j < count → get_or new (suc j) 0 ≡ get_or old j 0
