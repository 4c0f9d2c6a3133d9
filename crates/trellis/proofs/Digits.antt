-- In any base, the last n + 1 digits of a number are the last n digits of its quotient by the base, and then its remainder: dividing by the
-- base and then by a power of it is dividing by the next power. The symbols of a label are digits in base 4, the bits of a mask in base 2.
use mathlib.Core.Path.{◌≡◌}
use Prim.Native.Nat.{ℕ, suc, ◌-◌, ◌/◌, ◌%◌, ◌^◌, ◌<◌}
use native.Mathlib.Omega.{arith}
use native.Mathlib.Nat.{sub_self, pow-zero, pow-succ', div-one, div-div-eq-div-mul}

module _ (base n : ℕ) where
  pub digit_last : (x : ℕ) → x / base ^ (suc n - suc n) % base ≡ x % base
  digit_last x = rw (sub_self, pow-zero, div-one)

  pub digit_drop : (t x : ℕ) → t < n → x / base ^ (suc n - suc t) % base ≡ x / base / base ^ (n - suc t) % base
  digit_drop t x h =
      let e : suc n - suc t ≡ suc (n - suc t) = omega arith in
      rw (e, pow-succ', ← div-div-eq-div-mul)
