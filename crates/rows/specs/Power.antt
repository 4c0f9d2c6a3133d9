-- Powers of 2. A table of sums has a power of 2 of vertices at each depth, and of edges at each step.
use Rattle.std.specs.Prelude.{◌≡◌, ℕ, ◌^◌}

pub record Power (x : ℕ) : Type 0 where
  pub exponent : ℕ
  pub is : x ≡ 2 ^ exponent
