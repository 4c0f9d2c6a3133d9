-- What makes a number, a count and four places an outcome of document 01, which returns four numbers at most.
use Rattle.std.specs.Prelude.{◌≡◌, List, [], ◌∷◌, ℕ, ◌≤◌, length, get_or}
use Rattle.trellis.specs.Outcome.{Outcome}

-- the returned numbers in order, and 0 in the places not used
abbrev pub padded : List ℕ → List ℕ
padded vs = get_or vs 0 0 ∷ get_or vs 1 0 ∷ get_or vs 2 0 ∷ get_or vs 3 0 ∷ []

pub record Holds (o : Outcome) (number count : ℕ) (values : List ℕ) : Type 0 where
  pub number_is : number ≡ o.number
  pub count_is : count ≡ length o.values
  pub few : count ≤ 4
  pub values_are : values ≡ padded o.values
