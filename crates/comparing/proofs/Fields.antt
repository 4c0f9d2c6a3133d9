-- A number of k bits a field stands in the low halves of fields of k + k bits. Two neighbouring fields become one by (x | x >> k) & e: the
-- shift brings the higher part from its field to the high half of the lower one, which was empty, and the mask e, the low half of each
-- field of four times k bits, keeps the two parts side by side. So half as many fields, twice as wide, hold the same number.
use mathlib.Core.Path.{◌≡◌, sym, ◌∙◌, ap, ap₂}
use Prim.Native.Nat.{ℕ, zero, suc, ◌+◌, ◌-◌, ◌*◌, ◌/◌, ◌%◌, ◌^◌, ◌<◌}
use native.Mathlib.Omega.{arith}
use native.Mathlib.Nat.{zero-add, zero-mul, add_comm, add-mul, mul_assoc, mul_right_comm, mod-lt, mod-eq_of_lt, le-add_right}
use native.Mathlib.Nat.{lt_of_lt_of_le, lt_of_le_of_lt}
use lib.Arith.{digits_div, digits_mod}
use lib.Bits.{bit_and, bit_or, and_zero_r, and_le_r, and_block, and_mask, or_shr, or_mod, or_shifted_r}
use lib.Pow.{pow_pos, pow_mono, pow-add, split, shl_lt, shr-shr, mod-mod-pow, mod-pow-add, ones_lt}
use Rattle.comparing.specs.Inner.Masks.{MaskedOr}

-- the mask of the low half of each of the last m fields of k + k bits
unfoldable pub low_halves : ℕ → ℕ → ℕ
low_halves k zero = 0
low_halves k (suc m) = low_halves k m * 2 ^ (k + k) + (2 ^ k - 1)

-- the last m parts of v, of k bits each, in the low halves of m fields of k + k bits
unfoldable pub spread : ℕ → ℕ → ℕ → ℕ
spread k zero v = 0
spread k (suc m) v = spread k m (v / 2 ^ k) * 2 ^ (k + k) + v % 2 ^ k

module _ (k : ℕ) where
  -- a half of a field fits into it
  half : {a : ℕ} → a < 2 ^ k → a < 2 ^ (k + k)
  half h = lt_of_lt_of_le h (pow_mono (le-add_right k k))

  -- the mask keeps the low half of the last field, and its rest meets the rest of x
  pub kept : (m x : ℕ)
      → bit_and x (low_halves k (suc m)) ≡ bit_and (x / 2 ^ (k + k)) (low_halves k m) * 2 ^ (k + k) + x % 2 ^ k
  unfolding low_halves
  kept m x =
      let mask = low_halves k m * 2 ^ (k + k) + (2 ^ k - 1) in
      ap (λ w. bit_and w mask) (sym (split x (k + k)))
      ∙ and_block (k + k) (x / 2 ^ (k + k)) (low_halves k m) (x % 2 ^ (k + k)) (2 ^ k - 1) (mod-lt x (pow_pos (k + k))) (half (ones_lt k))
      ∙ ap (λ w. bit_and (x / 2 ^ (k + k)) (low_halves k m) * 2 ^ (k + k) + w)
      (and_mask (x % 2 ^ (k + k)) k ∙ mod-mod-pow x k k)

  -- shifts by k and by j, in either order
  pub swapped : (j x : ℕ) → x / 2 ^ k / 2 ^ j ≡ x / 2 ^ j / 2 ^ k
  swapped j x = shr-shr x k j ∙ ap (λ e. x / 2 ^ e) (add_comm k j) ∙ sym (shr-shr x j k)

  -- two fields with the parts high and low, and what stands in front of them
  module _ (front high low : ℕ) (a : high < 2 ^ k) (b : low < 2 ^ k) where
    abbrev pair : ℕ
    pair = (front * 2 ^ (k + k) + high) * 2 ^ (k + k) + low

    pair_front : pair / 2 ^ ((k + k) + (k + k)) ≡ front
    pair_front =
        sym (shr-shr pair (k + k) (k + k))
        ∙ ap (λ w. w / 2 ^ (k + k)) (digits_div (front * 2 ^ (k + k) + high) (half b)) ∙ digits_div front (half a)

    -- shifted by k, the higher part is where the lower one has an empty half
    pair_shifted : pair / 2 ^ k % 2 ^ (k + k) ≡ high * 2 ^ k
    pair_shifted =
        let w = front * 2 ^ (k + k) + high in
        let by_halves : w * 2 ^ (k + k) ≡ w * 2 ^ k * 2 ^ k = ap (λ p. w * p) (pow-add 2 k k) ∙ sym (mul_assoc w (2 ^ k) (2 ^ k)) in
        ap (λ p. (p + low) / 2 ^ k % 2 ^ (k + k)) by_halves
        ∙ ap (λ p. p % 2 ^ (k + k)) (digits_div (w * 2 ^ k) b ∙ add-mul (front * 2 ^ (k + k)) high (2 ^ k)
        ∙ ap (λ p. p + high * 2 ^ k) (mul_right_comm front (2 ^ (k + k)) (2 ^ k)))
        ∙ digits_mod (front * 2 ^ k) (shl_lt k k a)

    pair_last : bit_or pair (pair / 2 ^ k) % 2 ^ (k + k) ≡ high * 2 ^ k + low
    pair_last =
        or_mod pair (pair / 2 ^ k) (k + k) ∙ ap₂ bit_or (digits_mod (front * 2 ^ (k + k) + high) (half b)) pair_shifted
        ∙ or_shifted_r high k low b

abbrev joined : ℕ → ℕ → ℕ → ℕ
joined k m x = bit_and (bit_or x (x / 2 ^ k)) (low_halves (k + k) m)

drawn : (k m v : ℕ) → joined k m (spread k (m + m) v) ≡ spread (k + k) m v
unfolding spread low_halves
drawn k zero v = and_zero_r (bit_or 0 (0 / 2 ^ k))
drawn k (suc m) v =
    let front = spread k (m + m) (v / 2 ^ k / 2 ^ k) in
    let high = v / 2 ^ k % 2 ^ k in
    let low = v % 2 ^ k in
    let a : high < 2 ^ k = mod-lt (v / 2 ^ k) (pow_pos k) in
    let b : low < 2 ^ k = mod-lt v (pow_pos k) in
    let x = pair k front high low a b in
    let four = (k + k) + (k + k) in
    let two : suc m + suc m ≡ suc (suc (m + m)) = omega arith in
    let rest : bit_or x (x / 2 ^ k) / 2 ^ four ≡ bit_or front (front / 2 ^ k) =
    or_shr x (x / 2 ^ k) four ∙ ap (bit_or (x / 2 ^ four)) (swapped k four x)
    ∙ ap (λ w. bit_or w (w / 2 ^ k)) (pair_front k front high low a b) in
    ap (λ fields. joined k (suc m) (spread k fields v)) two
    ∙ kept (k + k) m (bit_or x (x / 2 ^ k))
    ∙ ap₂ (λ w last. w * 2 ^ four + last)
    (ap (λ w. bit_and w (low_halves (k + k) m)) rest ∙ drawn k m (v / 2 ^ k / 2 ^ k) ∙ ap (spread (k + k) m) (shr-shr v k k))
    (pair_last k front high low a b ∙ sym (mod-pow-add v k k))

-- as the code has it, with its shift and its mask
pub drawn_together : (k m v : ℕ) {x y mask r : ℕ} → MaskedOr x y mask r → x ≡ spread k (m + m) v → y ≡ x / 2 ^ k
    → mask ≡ low_halves (k + k) m → r ≡ spread (k + k) m v
drawn_together k m v {x} s e shifted low =
    s.is ∙ ap₂ (λ y mask. bit_and (bit_or x y) mask) shifted low ∙ ap (joined k m) e ∙ drawn k m v

-- one field holds all of v
pub one_field : (k : ℕ) {v : ℕ} → v < 2 ^ k → spread k 1 v ≡ v
unfolding spread
one_field k {v} h = ap (λ w. w + v % 2 ^ k) (zero-mul (2 ^ (k + k))) ∙ zero-add (v % 2 ^ k) ∙ mod-eq_of_lt h

-- what a mask keeps is not above it
pub kept_below : (k : ℕ) {x y mask r : ℕ} → MaskedOr x y mask r → mask < 2 ^ k → r < 2 ^ k
kept_below k {x} {y} {mask} s h = rw s.is (lt_of_le_of_lt (and_le_r (bit_or x y) mask) h)
