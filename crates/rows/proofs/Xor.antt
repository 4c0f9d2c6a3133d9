-- Laws of sums modulo 2 of two numbers, beyond the library's: they associate, since digits do; so a number added twice goes, and four can
-- be paired anew.
use mathlib.Core.Path.{◌≡◌, refl, sym, ap, ap₂, ◌∙◌}
use Prim.Native.Nat.{ℕ, zero, suc, ◌+◌, ◌*◌, ◌/◌, ◌%◌, ◌^◌, ◌<◌}
use native.Mathlib.Omega.{arith}
use native.Mathlib.Nat.{mod-lt, one-mul}
use lib.Arith.{bin_ind, digits_div, digits_mod}
use lib.Bits.{differ, xor_step, xor_comm, xor_self, xor_zero_r, xor_shr, xor_shifted}
use Rattle.rows.specs.Sums.{◌⊕◌}
use Rattle.rows.specs.Inner.Reduced.{bit_at}

-- ---- digits

pub differ_lt : (x y : ℕ) → x < 2 → y < 2 → differ x y < 2
differ_lt zero y a b = b
differ_lt (suc x) zero a b = a
differ_lt (suc x) (suc y) a b = differ_lt x y (omega arith) (omega arith)

differ_assoc : (x y z : ℕ) → x < 2 → y < 2 → z < 2 → differ (differ x y) z ≡ differ x (differ y z)
differ_assoc zero y z a b c = refl
differ_assoc (suc zero) zero z a b c = refl
differ_assoc (suc zero) (suc zero) zero a b c = refl
differ_assoc (suc zero) (suc zero) (suc zero) a b c = refl
differ_assoc (suc zero) (suc zero) (suc (suc z)) a b c = absurd (omega arith)
differ_assoc (suc zero) (suc (suc y)) z a b c = absurd (omega arith)
differ_assoc (suc (suc x)) y z a b c = absurd (omega arith)

pub odd_lt : (x : ℕ) → x % 2 < 2
odd_lt x = mod-lt x (omega arith)

digits_of : (x y : ℕ) → differ (x % 2) (y % 2) < 2
digits_of x y = differ_lt (x % 2) (y % 2) (odd_lt x) (odd_lt y)

pub xor_half : (x y : ℕ) → (x ⊕ y) / 2 ≡ (x / 2) ⊕ (y / 2)
xor_half x y = ap (λ k. k / 2) (xor_step x y) ∙ digits_div ((x / 2) ⊕ (y / 2)) (digits_of x y)

pub xor_odd : (x y : ℕ) → (x ⊕ y) % 2 ≡ differ (x % 2) (y % 2)
xor_odd x y = ap (λ k. k % 2) (xor_step x y) ∙ digits_mod ((x / 2) ⊕ (y / 2)) (digits_of x y)

-- ---- numbers

pub xor_assoc : (x y z : ℕ) → (x ⊕ y) ⊕ z ≡ x ⊕ (y ⊕ z)
xor_assoc = bin_ind (λ (x : ℕ). (y z : ℕ) → (x ⊕ y) ⊕ z ≡ x ⊕ (y ⊕ z)) (λ y z. refl)
    (λ x ih y z. xor_step (x ⊕ y) z
    ∙ ap₂ (λ a b. (a ⊕ (z / 2)) * 2 + differ b (z % 2)) (xor_half x y) (xor_odd x y)
    ∙ ap₂ (λ a b. a * 2 + b) (ih (y / 2) (z / 2)) (differ_assoc (x % 2) (y % 2) (z % 2) (odd_lt x) (odd_lt y) (odd_lt z))
    ∙ sym (ap₂ (λ a b. ((x / 2) ⊕ a) * 2 + differ (x % 2) b) (xor_half y z) (xor_odd y z))
    ∙ sym (xor_step x (y ⊕ z)))

-- a number added twice goes
pub xor_twice : (x y : ℕ) → x ⊕ (x ⊕ y) ≡ y
xor_twice x y = sym (xor_assoc x x y) ∙ ap (λ k. k ⊕ y) (xor_self x)

pub xor_again : (x y : ℕ) → (x ⊕ y) ⊕ y ≡ x
xor_again x y = xor_assoc x y y ∙ ap (λ k. x ⊕ k) (xor_self y) ∙ xor_zero_r x

pub xor_same : (x y : ℕ) → x ⊕ y ≡ 0 → x ≡ y
xor_same x y e = sym (xor_again x y) ∙ ap (λ k. k ⊕ y) e

-- a power of 2 and a number below it
pub power_xor : (b j : ℕ) → j < 2 ^ b → 2 ^ b ⊕ j ≡ 2 ^ b + j
power_xor b j h = ap (λ a. a ⊕ j) (sym (one-mul (2 ^ b))) ∙ xor_shifted 1 b j h ∙ ap (λ a. a + j) (one-mul (2 ^ b))

pub xor_four : (x y z w : ℕ) → (x ⊕ y) ⊕ (z ⊕ w) ≡ (x ⊕ z) ⊕ (y ⊕ w)
xor_four x y z w =
    xor_assoc x y (z ⊕ w)
    ∙ ap (λ k. x ⊕ k) (sym (xor_assoc y z w) ∙ ap (λ k. k ⊕ w) (xor_comm y z) ∙ xor_assoc z y w)
    ∙ sym (xor_assoc x z (y ⊕ w))

pub bit_xor : (p x y : ℕ) → bit_at p (x ⊕ y) ≡ differ (bit_at p x) (bit_at p y)
unfolding bit_at
bit_xor p x y = ap (λ k. k % 2) (xor_shr x y p) ∙ xor_odd (x / 2 ^ p) (y / 2 ^ p)
