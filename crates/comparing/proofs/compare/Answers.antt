-- `comparing::compare` meets its contract: what `differences` finds, without the erased symbols, is the mask, and its ones are the
-- distance.
use mathlib.Core.Path.{refl, ap}
use Prim.Native.Nat.{◌-◌}
use lib.Bits.{bit_and}
use Rattle.comparing.proofs.Marks.{compared}
use Rattle.comparing.proofs.compare.Goals as goal

pub returns : goal.returns
returns c =
    let a = c.args in
    compared 8 a.x a.erased a.y (ap (λ d. bit_and d (255 - a.erased)) c.differences.ensures) refl c.ranges.erased.fits
