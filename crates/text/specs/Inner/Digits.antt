-- How many digits numbers have at most, for who has to know how long a line is.
use Rattle.std.specs.Prelude.{List, [], ◌∷◌, ℕ, ◌^◌, ◌<◌}

-- numbers of at most d digits
abbrev pub AllBelow : ℕ → List ℕ → Type 0
AllBelow d [] = Unit
AllBelow d (x ∷ xs) = (x < 10 ^ d) × AllBelow d xs
