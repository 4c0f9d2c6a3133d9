-- One step of drawing the marks of differing symbols together.
use Rattle.std.specs.Prelude.{◌≡◌, ℕ}
use Rattle.std.specs.Int.Bits.{bit_and, bit_or}

-- r has what the mask keeps of x and of y
pub record MaskedOr (x y mask r : ℕ) : Type 0 where
  pub is : r ≡ bit_and (bit_or x y) mask
