-- An outcome in plain numbers, as callers in other languages get it: document 01's number, and four places for the numbers returned with
-- it.
use Rattle.std.specs.Prelude.{◌≡◌, List, [], ◌∷◌, ℕ, min, get_or}
use Rattle.trellis.specs.Outcome.{Outcome}

-- a place holds four bytes: a returned number that is larger, as a file's length can be, is stored as the largest that fits
abbrev pub stored : ℕ → ℕ
stored x = min x 4294967295

-- the returned numbers in order, and 0 in the places not used
unfoldable pub four_of : List ℕ → List ℕ
four_of vs = stored (get_or vs 0 0) ∷ stored (get_or vs 1 0) ∷ stored (get_or vs 2 0) ∷ stored (get_or vs 3 0) ∷ []

-- the outcome's number and its four places
pub record Numbered (o : Outcome) (number : ℕ) (values : List ℕ) : Type 0 where
  pub number_is : number ≡ o.number
  pub values_are : values ≡ four_of o.values
