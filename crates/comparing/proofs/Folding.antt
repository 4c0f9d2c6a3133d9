-- Two labels differ in a symbol exactly if `^` leaves something of it, that is, one of its two bits. So (x ^ y) | (x ^ y) >> 1 tells it in
-- the lower bit of each symbol, and a mask keeps that bit alone.
use mathlib.Core.Path.{◌≡◌, refl, sym, ◌∙◌, ap, ap₂}
use mathlib.Core.Bool.{not}
use Prim.Native.Nat.{ℕ, zero, suc, ◌+◌, ◌*◌, ◌/◌, ◌%◌, ◌<◌}
use native.Mathlib.Omega.{arith}
use native.Mathlib.Decide.{ℕ_discrete}
use lib.Arith.{digits_div, digits_mod, mod-mul}
use lib.Bits.{bit_and, bit_or, bit_xor, and_zero_r, and_le_l, and_le_r, or_lt, or_shr, or_mod, or_add_and, xor_self, xor_comm, xor_shr}
use lib.Bits.{xor_mod, xor_add_and}
use lib.Dec.{eqb, lit<}
use borrow.Author.Tests.{eq-eqb, ne_eqb}
use Rattle.trellis.specs.Lists.{one_if}
use Rattle.trellis.specs.Comparing.{differing}
use Rattle.trellis.proofs.Bools.{one_if_le}
use Rattle.trellis.proofs.Comparing.{differing_last}
use Rattle.comparing.specs.Inner.Masks.{MaskedOr}
use Rattle.comparing.proofs.Fields.{low_halves, spread, kept, swapped}

-- 1 where two symbols differ
abbrev unlike : ℕ → ℕ → ℕ
unlike a b = one_if (not (eqb a b))

-- `^` leaves nothing exactly of what is the same
same_if_none : (a b : ℕ) → bit_xor a b ≡ 0 → a ≡ b
same_if_none a b e = omega (arith, xor_add_and a b, and_le_l a b, and_le_r a b)

unlike_xor : (a b : ℕ) → unlike a b ≡ unlike (bit_xor a b) 0
unlike_xor a b = go (ℕ_discrete a b)
  where
    go : Dec (a ≡ b) → unlike a b ≡ unlike (bit_xor a b) 0
    go (yes e) = rw (e, eq-eqb b b refl, xor_self b)
    go (no e) = rw (ne_eqb a b e, ne_eqb (bit_xor a b) 0 (λ z. e (same_if_none a b z)))

-- the two bits of a symbol, folded: it is 0 only if both are
fold : (low high : ℕ) → low < 2 → high < 2 → bit_or low high ≡ unlike (high * 2 + low) 0
fold low high a b = go (ℕ_discrete (high * 2 + low) 0)
  where
    go : Dec (high * 2 + low ≡ 0) → bit_or low high ≡ unlike (high * 2 + low) 0
    go (yes e) =
        let l : low ≡ 0 = omega arith in
        let h : high ≡ 0 = omega arith in
        rw (l, h)
    go (no e) =
        let one : bit_or low high ≡ 1 =
        omega (arith, or_lt 1 low high a b, or_add_and low high, and_le_l low high, and_le_r low high) in
        rw (one, ne_eqb (high * 2 + low) 0 e)

-- the last symbol of x ^ y, folded
fold_last : (x y : ℕ) → bit_or (bit_xor x y) (bit_xor x y / 2) % 2 ≡ unlike (y % 4) (x % 4)
fold_last x y =
    let b = bit_xor x y in
    or_mod b (b / 2) 1 ∙ fold (b % 2) (b / 2 % 2) (omega arith) (omega arith)
    ∙ ap (λ s. unlike s 0) (sym (mod-mul b {m = 2} {c = 2} (lit< tt) (lit< tt)) ∙ xor_mod x y 2 ∙ xor_comm (x % 4) (y % 4))
    ∙ sym (unlike_xor (y % 4) (x % 4))

-- one bit a symbol
fold_all : (n x y : ℕ) → bit_and (bit_or (bit_xor x y) (bit_xor x y / 2)) (low_halves 1 n) ≡ spread 1 n (differing n x 0 y)
unfolding low_halves spread
fold_all zero x y = and_zero_r (bit_or (bit_xor x y) (bit_xor x y / 2))
fold_all (suc n) x y =
    let b = bit_xor x y in
    let front = differing n (x / 4) 0 (y / 4) in
    let last : unlike (y % 4) (x % 4) < 2 = omega (arith, one_if_le (not (eqb (y % 4) (x % 4)))) in
    let rest : bit_or b (b / 2) / 4 ≡ bit_or (bit_xor (x / 4) (y / 4)) (bit_xor (x / 4) (y / 4) / 2) =
    or_shr b (b / 2) 2 ∙ ap (bit_or (b / 4)) (swapped 1 2 b) ∙ ap (λ w. bit_or w (w / 2)) (xor_shr x y 2) in
    kept 1 n (bit_or b (b / 2))
    ∙ ap₂ (λ front last. front * 4 + last) (ap (λ w. bit_and w (low_halves 1 n)) rest ∙ fold_all n (x / 4) (y / 4)) (fold_last x y)
    ∙ sym (ap₂ (λ v s. spread 1 n v * 4 + s) (digits_div front last) (digits_mod front last))
    ∙ ap (spread 1 (suc n)) (sym (differing_last n x 0 y))

-- as the code has it, with its shift and its mask
pub folded : (n x y : ℕ) {b shifted mask r : ℕ} → MaskedOr b shifted mask r → b ≡ bit_xor x y → shifted ≡ b / 2 → mask ≡ low_halves 1 n
    → r ≡ spread 1 n (differing n x 0 y)
folded n x y {b} s e d low =
    s.is ∙ ap₂ (λ w mask. bit_and (bit_or b w) mask) d low ∙ ap (λ w. bit_and (bit_or w (w / 2)) (low_halves 1 n)) e ∙ fold_all n x y
