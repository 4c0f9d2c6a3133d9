-- A label shifted up by two bits has two zeros there, which `|` fills with the symbol: that is label * 4 + s. What the width cannot hold is
-- lost in the shift as it is in the remainder. Of a label of fewer than eight symbols nothing is lost, so s is the last symbol and the
-- label stands in front.
use mathlib.Core.Path.{◌≡◌, sym, ◌∙◌, ap₂}
use Prim.Native.Nat.{ℕ, suc, ◌+◌, ◌*◌, ◌/◌, ◌%◌, ◌^◌, ◌<◌, ◌≤◌}
use native.Mathlib.Omega.{arith}
use native.Mathlib.Nat.{pow-suc, pow-le-pow_right, mod-eq_of_lt, lt_of_lt_of_le}
use lib.Arith.{mod-mul, digits_div, digits_mod}
use lib.Bits.{bit_and, bit_or, or_shifted}
use lib.Dec.{lit<}
use Rattle.trellis.specs.Label.{symbol}
use Rattle.label.proofs.Digits.{symbol_last, symbol_drop}
use Rattle.label.proofs.Shifts.{mask_one}
use Rattle.packed.specs.Inner.Packed.{appended}

cut : (label d : ℕ) → d < 4 → label % 4 ^ 7 * 4 + d ≡ (label * 4 + d) % 4 ^ 8
cut label d l =
    sym
    (mod-mul (label * 4 + d) {m = 4 ^ 7} {c = 4} (lit< tt) (lit< tt)
    ∙ ap₂ (λ front last. front % 4 ^ 7 * 4 + last) (digits_div label l) (digits_mod label l))

pub put_behind : (label s : ℕ) → bit_or (label * 2 ^ 2 % 2 ^ 16) (bit_and s 3) ≡ appended label s
unfolding appended
put_behind label s =
    let e : label * 4 % 4 ^ 8 ≡ label % 4 ^ 7 * 4 = omega arith in
    let l : s % 4 < 4 = omega arith in
    rw (mask_one, e, or_shifted (label % 4 ^ 7) 2 (s % 4) l) (cut label (s % 4) l)

module _ (n label s : ℕ) (short : label < 4 ^ n) (room : n < 8) (small : s < 4) where
  longer : label * 4 + s < 4 ^ suc n
  longer = rw pow-suc (omega arith)

  pub appended_is : appended label s ≡ label * 4 + s
  unfolding appended
  appended_is =
      let h : 4 ^ suc n ≤ 4 ^ 8 = pow-le-pow_right (lit< tt) room in
      rw (mod-eq_of_lt small) (mod-eq_of_lt (lt_of_lt_of_le longer h))

  pub appended_short : appended label s < 4 ^ suc n
  appended_short = rw appended_is longer

  pub appended_last : symbol (suc n) n (appended label s) ≡ s
  appended_last = symbol_last n (appended label s) ∙ rw appended_is (omega arith)

  pub appended_before : (t : ℕ) → t < n → symbol (suc n) t (appended label s) ≡ symbol n t label
  appended_before t l =
      let e : (label * 4 + s) / 4 ≡ label = omega arith in
      symbol_drop n t (appended label s) l ∙ rw (appended_is, e)
