-- The first of numbers that rise which is not under a given one: what the search asks and leaves, and the test of a guess.
use Rattle.std.specs.Prelude.{Bool, true, ◌&&◌, List, ℕ, zero, suc, ◌*◌, ◌≤◌, ◌<◌, ltb, leb, length, get_or}
use Rattle.trellis.specs.Bounds.{most_words}

-- count pairs are there, in the order of their first numbers
pub record FromsRise (pairs : List ℕ) (count : ℕ) : Type 0 where
  pub few : count ≤ most_words
  pub there : 2 * count ≤ length pairs
  pub rise : (j k : ℕ) → j ≤ k → k < count → get_or pairs (2 * j) 0 ≤ get_or pairs (2 * k) 0

-- of the numbers f j that rise, those below a are under v, and those from a on are not
pub record FirstFrom (f : ℕ → ℕ) (count v a : ℕ) : Type 0 where
  pub inside : a ≤ count
  pub under : (j : ℕ) → j < a → f j < v
  pub over : (j : ℕ) → a ≤ j → j < count → v ≤ f j

-- the number before f a, if there is one, is under v
unfoldable pub under_before : (ℕ → ℕ) → ℕ → ℕ → Bool
under_before f v zero = true
under_before f v (suc a) = ltb (f a) v

-- f a is not, and is one of the first count
unfoldable pub is_first : (ℕ → ℕ) → ℕ → ℕ → ℕ → Bool
is_first f count v a = ltb a count && (leb v (f a) && under_before f v a)
