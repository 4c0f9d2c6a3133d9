-- In 16 bits: a power of 2 below 2 ^ 16 is what the shift leaves, and the mask below it keeps the last bits. One bit is what the mask 1
-- keeps of the bits from it on.
use mathlib.Core.Path.{◌≡◌, ap, ◌∙◌}
use Prim.Native.Nat.{ℕ, ◌-◌, ◌*◌, ◌/◌, ◌%◌, ◌^◌, ◌<◌}
use native.Mathlib.Omega.{arith}
use native.Mathlib.Nat.{mod-eq_of_lt}
use lib.Pow.{pow-lt}
use lib.Bits.{bit_and, and_mask}
use Rattle.rows.specs.Inner.Reduced.{bit_at}

pub mask_is : (x d : ℕ) → d < 16 → bit_and x ((1 * 2 ^ d) % 2 ^ 16 - 1) ≡ x % 2 ^ d
mask_is x d h =
    let l : 2 ^ d < 2 ^ 16 = pow-lt {i = d} {j = 16} h in
    let e : (1 * 2 ^ d) % 2 ^ 16 ≡ 2 ^ d = mod-eq_of_lt (omega arith) ∙ omega arith in
    ap (λ k. bit_and x (k - 1)) e ∙ and_mask x d

pub bit_is : (x cut : ℕ) → bit_and (x / 2 ^ cut) 1 ≡ bit_at cut x
unfolding bit_at
bit_is x cut = and_mask (x / 2 ^ cut) 1
