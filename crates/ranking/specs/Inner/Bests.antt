-- What it means to be the k best of a list whose members stand in the order R.
use Rattle.std.specs.Prelude.{◌≡◌, ◌⊎◌, List, [], ◌∷◌, ℕ, ◌<◌, min, length}
use Rattle.trellis.specs.Lists.{◌∈◌}
use Rattle.paths.specs.Choice.{Choice, none, some}
use Rattle.paths.specs.Inner.Ordered.{Ordered}

-- the first of a list, with its cost
abbrev pub head_of : {A : Type 0} → (A → ℕ) → List A → Choice A
head_of cost [] = none
head_of cost (x ∷ xs) = some (cost x) x

-- x costs less than y, or as much and stands before it
abbrev pub Prior : {A : Type 0} → (A → ℕ) → (A → A → Type 0) → A → A → Type 0
Prior cost R x y = (cost x < cost y) ⊎ ((cost x ≡ cost y) × R x y)

-- some of the list's members, k of them or all, in the order of cost and then R, and each member that is not listed comes behind every one
-- that is
pub record Bests {A : Type 0} (cost : A → ℕ) (R : A → A → Type 0) (k : ℕ) (xs best : List A) : Type 0 where
  pub listed : (x : A) → x ∈ best → x ∈ xs
  pub many : length best ≡ min k (length xs)
  pub ordered : Ordered (Prior cost R) best
  pub before : (x : A) → x ∈ xs → (x ∈ best) ⊎ ((y : A) → y ∈ best → Prior cost R y x)
