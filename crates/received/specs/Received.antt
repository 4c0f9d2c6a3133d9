-- What was received of a block of n symbols, a label and an erasure mask of n bits, the first symbol highest, and whether it fits.
-- Everything here computes.
use Rattle.std.specs.Prelude.{Bool, not, ◌&&◌, ℕ, ◌^◌, ltb, eqb}
use Rattle.trellis.specs.Lists.{first}
use Rattle.trellis.specs.Label.{symbol, is_label}
use Rattle.trellis.specs.Comparing.{marked_at}

module _ (n received erased : ℕ) where
  -- whether symbol t is erased and yet not 0 in the received label
  unfoldable pub stray : ℕ → Bool
  stray t = marked_at n t erased && not (eqb (symbol n t received) 0)

  -- no digit not below q, none not 0 where erased, no bits above the n digits, no mask bit at or above 2^n
  unfoldable pub fits_block : ℕ → Bool
  fits_block q = is_label q n received && (ltb erased (2 ^ n) && eqb (first stray n) n)
