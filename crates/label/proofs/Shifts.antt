-- Shifts and masks at two bits a symbol are division and remainder by powers of 4, because 2 ^ (2 * k) is 4 ^ k. Where the width is used
-- up, as many symbols as the number has are shifted out, so nothing is left, and none is masked off.
use mathlib.Core.Path.{◌≡◌, refl, sym, ◌∙◌, ap}
use Prim.Native.Nat.{ℕ, zero, suc, ◌+◌, ◌-◌, ◌*◌, ◌/◌, ◌%◌, ◌^◌, ◌<◌, ◌≤◌}
use native.Mathlib.Omega.{arith}
use native.Mathlib.Nat.{pow-suc, pow-le-pow_right, lt_of_lt_of_le, mod-eq_of_lt, div-eq_of_lt, one-mul}
use Rattle.trellis.specs.Label.{symbol, front, back}
use lib.Bits.{bit_and, and_mask}
use lib.Dec.{lit<}
use lib.Pow.{pow-add, pow_pos, pow-lt}

pub four : (k : ℕ) → 2 ^ (2 * k) ≡ 4 ^ k
four zero = refl
four (suc k) =
    let e : 2 * suc k ≡ 2 * k + 2 = omega arith in
    rw (e, pow-add 2 (2 * k) 2, four k) (sym (pow-suc 4 k))

pub shift_out : (x k : ℕ) → x / 2 ^ (2 * k) ≡ x / 4 ^ k
shift_out x k = rw (four k)

pub mask_one : (x : ℕ) → bit_and x 3 ≡ x % 4
mask_one x = and_mask x 2

-- one bit shifted up within the width w
up : (w k : ℕ) → k < w → (1 * 2 ^ k) % 2 ^ w ≡ 2 ^ k
up w k h = rw (one-mul (2 ^ k)) (mod-eq_of_lt (pow-lt h))

pub up_pos : (w k : ℕ) → k < w → 1 ≤ (1 * 2 ^ k) % 2 ^ w
up_pos w k h = rw (up w k h) (pow_pos k)

pub mask : (w x k : ℕ) → 2 * k < w → bit_and x ((1 * 2 ^ (2 * k)) % 2 ^ w - 1) ≡ x % 4 ^ k
mask w x k h = rw (up w (2 * k) h, and_mask x (2 * k), four k)

-- x has at most m symbols
module _ (m : ℕ) {x : ℕ} (k : ℕ) (short : x < 4 ^ m) (all : m ≤ k) where
  shorter : x < 4 ^ k
  shorter = lt_of_lt_of_le short (pow-le-pow_right (lit< tt) all)

  pub none_left : 0 ≡ x / 4 ^ k
  none_left = sym (div-eq_of_lt shorter)

  pub all_left : x ≡ x % 4 ^ k
  all_left = sym (mod-eq_of_lt shorter)

-- what the code finds of x at depth t, from the number of symbols behind that depth
module _ (n t x : ℕ) {low : ℕ} (behind : low ≡ n - t) where
  pub front_by : {r : ℕ} → r ≡ x / 4 ^ low → r ≡ front n t x
  unfolding front
  front_by e = e ∙ ap (λ k. x / 4 ^ k) behind

  pub back_by : {r : ℕ} → r ≡ x % 4 ^ low → r ≡ back n t x
  unfolding back
  back_by e = e ∙ ap (λ k. x % 4 ^ k) behind

  pub symbol_by : {less r : ℕ} → less ≡ low - 1 → r ≡ x / 4 ^ less → bit_and r 3 ≡ symbol n t x
  unfolding symbol
  symbol_by {less} {r} h e =
      let d : less ≡ n - suc t = omega arith in
      mask_one r ∙ ap (λ k. k % 4) (e ∙ ap (λ k. x / 4 ^ k) d)
