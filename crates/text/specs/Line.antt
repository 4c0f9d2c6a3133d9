-- The bytes of a line that document 01 prints: a fixed word, numbers in decimal, a space before each, and a newline byte. Everything here
-- computes.
use mathlib.Core.List.{List, [], ◌∷◌, ◌++◌, flat_map}
use Rattle.std.specs.Prelude.{ℕ, suc, ◌+◌, ◌-◌, ◌/◌, ◌%◌, ◌^◌, ltb}
use Rattle.trellis.specs.Lists.{each, first}

-- the byte of the digit d
abbrev pub digit : ℕ → ℕ
digit d = 48 + d

-- how many digits of x stand in front of its last one: the first k with x below 10^(k+1), and some k up to x is one
unfoldable pub higher_digits : ℕ → ℕ
higher_digits x = first (λ k. ltb x (10 ^ suc k)) x

-- the decimal digits of x, the highest first
unfoldable pub decimal : ℕ → List ℕ
decimal x = each (λ i. digit (x / 10 ^ (higher_digits x - i) % 10)) (suc (higher_digits x))

unfoldable pub spaced : ℕ → List ℕ
spaced x = 32 ∷ decimal x

unfoldable pub line : List ℕ → List ℕ → List ℕ
line word numbers = word ++ (flat_map spaced numbers ++ (10 ∷ []))
