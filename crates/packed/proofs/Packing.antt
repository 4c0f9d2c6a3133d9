-- Whether x is a label of n + 1 symbols below q is whether its last symbol is below q and x / 4 is a label of n such symbols. From this
-- step, by induction: the test says what it ought to of every symbol; and asking for more symbols than x has changes nothing, because those
-- are zeros, and a zero is below q whenever the last symbol is.
use mathlib.Core.Path.{◌≡◌, refl, sym, ◌∙◌, ap}
use mathlib.Core.Bool.{Bool, true, false, ◌&&◌}
use mathlib.Core.Logic.{◌↔◌}
use Prim.Native.Nat.{ℕ, zero, suc, ◌-◌, ◌/◌, ◌%◌, ◌^◌, ◌<◌, ◌≤◌, min}
use native.Mathlib.Omega.{arith}
use native.Mathlib.Decide.{ℕ_discrete, dec_lt}
use native.Mathlib.Nat.{not-suc-le-zero}
use lib.Bits.{bit_and}
use lib.Dec.{ltb, eqb, eqb-suc-zero}
use borrow.Author.Tests.{ltb-true, lt-ltb, le-ltb}
use Rattle.trellis.specs.Label.{symbol, symbols_below, is_label}
use Rattle.trellis.proofs.Bools.{left_true, right_true, both_true}
use Rattle.label.proofs.Digits.{drop_short, join_short, symbol_last, symbol_drop}
use Rattle.label.proofs.Shifts.{mask_one}
use Rattle.packed.specs.Inner.Packed.{Packed}

swap : (a b c : Bool) → (a && (b && c)) ≡ (b && (a && c))
swap true true c = refl
swap true false c = refl
swap false true c = refl
swap false false c = refl

short_drop : (n x : ℕ) → ltb x (4 ^ suc n) ≡ ltb (x / 4) (4 ^ n)
short_drop n x = go (dec_lt (x / 4) (4 ^ n)) (drop_short n) (join_short n)
  where
    go : Dec (x / 4 < 4 ^ n) → (x < 4 ^ suc n → x / 4 < 4 ^ n) → (x / 4 < 4 ^ n → x < 4 ^ suc n) → ltb x (4 ^ suc n) ≡ ltb (x / 4) (4 ^ n)
    go (yes h) f g = lt-ltb x (4 ^ suc n) (g h) ∙ sym (lt-ltb (x / 4) (4 ^ n) h)
    go (no h) f g = le-ltb x (4 ^ suc n) (omega arith) ∙ sym (le-ltb (x / 4) (4 ^ n) (omega arith))

module _ (q : ℕ) where
  pub label_step : (n x : ℕ) → is_label q (suc n) x ≡ (ltb (x % 4) q && is_label q n (x / 4))
  unfolding is_label symbols_below
  label_step n x =
      rw (short_drop n x)
      (swap (ltb (x / 4) (4 ^ n)) (ltb (x % 4) q) (symbols_below q n (x / 4)))

  pub label_none : (x : ℕ) → is_label q zero x ≡ ltb x 1
  unfolding is_label symbols_below
  label_none x = go (ltb x 1)
    where
      go : (b : Bool) → (b && true) ≡ b
      go true = refl
      go false = refl

  -- ---- symbol by symbol

  packed_drop : {n x : ℕ} → Packed q (suc n) x → Packed q n (x / 4)
  packed_drop {n} {x} p = record {
    short = drop_short n p.short;
    below = λ t l. rw (symbol_drop n t x l) at (p.below t (omega arith));
  }

  packed_join : {n x : ℕ} → x % 4 < q → Packed q n (x / 4) → Packed q (suc n) x
  packed_join {n} {x} h p = record {
    short = join_short n p.short;
    below = λ t l. go t (ℕ_discrete t n) l;
  }
    where
      go : (t : ℕ) → Dec (t ≡ n) → t < suc n → symbol (suc n) t x < q
      go t (yes e) l = rw (e, symbol_last) h
      go t (no e) l =
          let m : t < n = omega arith in
          rw (symbol_drop n t x m) (p.below t m)

  packed : (n x : ℕ) → is_label q n x ≡ true → Packed q n x
  packed zero x h = record { short = ltb-true x 1 (sym (label_none x) ∙ h); below = λ t l. absurd (not-suc-le-zero l) }
  packed (suc n) x h =
      let both = sym (label_step n x) ∙ h in
      packed_join
      (ltb-true (x % 4) q (left_true (ltb (x % 4) q) (is_label q n (x / 4)) both))
      (packed n (x / 4) (right_true (ltb (x % 4) q) (is_label q n (x / 4)) both))

  is_packed : (n x : ℕ) → Packed q n x → is_label q n x ≡ true
  is_packed zero x p = label_none x ∙ lt-ltb x 1 p.short
  is_packed (suc n) x p =
      label_step n x
      ∙ both_true
      (lt-ltb (x % 4) q (rw symbol_last at (p.below n (omega arith))))
      (is_packed n (x / 4) (packed_drop p))

  pub label_packed : (n x : ℕ) → (is_label q n x ≡ true) ↔ Packed q n x
  label_packed n x = (packed n x, is_packed n x)

  -- ---- more symbols than x has

  zero_label : (n : ℕ) → 0 < q → is_label q n 0 ≡ true
  zero_label zero h = label_none 0
  zero_label (suc n) h = label_step n 0 ∙ both_true (lt-ltb 0 q h) (zero_label n h)

  label_more : (m n x : ℕ) → m ≤ n → x < 4 ^ suc m → is_label q (suc n) x ≡ is_label q (suc m) x
  label_more zero n x h short = label_step n x ∙ go (ltb (x % 4) q) refl ∙ sym (label_step zero x)
    where
      go : (b : Bool) → ltb (x % 4) q ≡ b → (b && is_label q n (x / 4)) ≡ (b && is_label q zero (x / 4))
      go false e = refl
      go true e =
          let none : x / 4 ≡ 0 = omega arith in
          let some : 0 < q = omega (arith, ltb-true (x % 4) q e) in
          rw none (zero_label n some ∙ sym (zero_label zero some))
  label_more (suc m) zero x h short = absurd (not-suc-le-zero h)
  label_more (suc m) (suc n) x h short =
      label_step (suc n) x
      ∙ ap (λ rest. ltb (x % 4) q && rest) (label_more m n (x / 4) (omega arith) (drop_short (suc m) short))
      ∙ sym (label_step (suc m) x)

  -- x has at most m + 1 symbols, so no others need be looked at
  pub label_held : (m n x k : ℕ) → x < 4 ^ suc m → k ≡ min n (suc m) → is_label q n x ≡ is_label q k x
  label_held m n x k short e = go n (dec_lt m n) e
    where
      go : (n : ℕ) → Dec (m < n) → k ≡ min n (suc m) → is_label q n x ≡ is_label q k x
      go zero (yes h) e = absurd (not-suc-le-zero h)
      go (suc n) (yes h) e =
          let all : k ≡ suc m = omega arith in
          rw all (label_more m n x (omega arith) short)
      go n (no h) e = ap (λ k. is_label q k x) (omega arith)

  -- ---- the turns of a loop that takes off the last symbol while any is left

  pub turn_refuses : (k x : ℕ) → 0 < k → q ≤ bit_and x 3 → false ≡ is_label q k x
  turn_refuses zero x h l = absurd (not-suc-le-zero h)
  turn_refuses (suc k) x h l =
      sym (label_step k x ∙ rw (le-ltb (x % 4) q (rw mask_one at l)))

  pub turn_goes_on : (k x : ℕ) → 0 < k → bit_and x 3 < q → is_label q k x ≡ is_label q (k - 1) (x / 4)
  turn_goes_on zero x h l = absurd (not-suc-le-zero h)
  turn_goes_on (suc k) x h l =
      let e : suc k - 1 ≡ k = omega arith in
      label_step k x ∙ rw (lt-ltb (x % 4) q (rw mask_one at l), e)

  pub turn_ends : (k x : ℕ) → k ≤ 0 → eqb x 0 ≡ is_label q k x
  turn_ends zero x h = none x ∙ sym (label_none x)
    where
      none : (x : ℕ) → eqb x 0 ≡ ltb x 1
      none zero = refl
      none (suc x) = eqb-suc-zero x ∙ sym (le-ltb (suc x) 1 (omega arith))
  turn_ends (suc k) x h = absurd (not-suc-le-zero h)
