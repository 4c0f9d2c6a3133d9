-- Numbers by first occurrence: g i is what tells vertices apart, and i has the number of its vertex when vertices are numbered by their
-- first i. Where g keeps addition, so do the numbers: they are sums of one list of numbers, one for each bit of i.
use Rattle.std.specs.Prelude.{◌≡◌, List, ℕ, ◌^◌, ◌<◌, length, eqb}
use Rattle.runs.specs.Inner.Runs.{first_like, below, number_of}
use Rattle.rows.specs.Sums.{sum_of}

abbrev pub number : (ℕ → ℕ) → ℕ → ℕ
number g i = number_of (first_like g) i

-- how many numbers the first m have
abbrev pub numbers_below : (ℕ → ℕ) → ℕ → ℕ
numbers_below g m = below (λ j. eqb (first_like g j) j) m

-- the first 2 ^ b have 2 ^ d numbers, and these are sums of parts
pub record Numbered (g : ℕ → ℕ) (b d : ℕ) : Type 0 where
  pub parts : List ℕ
  pub wide : length parts ≡ b
  pub count : numbers_below g (2 ^ b) ≡ 2 ^ d
  pub is : (i : ℕ) → i < 2 ^ b → number g i ≡ sum_of parts i
  pub small : (i : ℕ) → i < 2 ^ b → number g i < 2 ^ d
