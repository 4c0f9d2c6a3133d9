-- Rows of bits and the words that they stand for. Bits spread to two places each keep their order, so words are ordered as the numbers are;
-- and a cut through a word is a cut through the number: the beginning of one word followed by the ending of another is the word of the one
-- number's high bits with the other's low bits.
use mathlib.Core.Path.{◌≡◌, refl, sym, ap, ap₂, subst, ◌∙◌}
use Prim.Native.Nat.{ℕ, zero, suc, ◌+◌, ◌-◌, ◌*◌, ◌/◌, ◌%◌, ◌^◌, ◌≤◌, ◌<◌}
use native.Mathlib.Omega.{arith}
use native.Mathlib.Nat.{mod-lt, mod-one, div-one, add-zero, add-suc, add_comm, pow-suc, div-div-eq-div-mul, mul_comm}
use native.Mathlib.Decide.{ℕ_discrete, dec_lt}
use lib.Arith.{mod-mul, digits_div, digits_mod}
use lib.Pow.{pow_pos, split, high, low, shr-shr, shr_mono, field, mod-mod-pow}
use lib.Bits.{xor_mod, xor_block}
use lib.Dec.{lit<}
use Rattle.trellis.specs.Lists.{by_first, by_second, by_third}
use Rattle.trellis.specs.Label.{front, back}
use Rattle.trellis.specs.Word.{Before, beginning, ending, joined}
use Rattle.trellis.proofs.Labels.{four_pos, by_parts}
use Rattle.trellis.proofs.ThreeNumbers.{lower_never}
use Rattle.trellis.proofs.Words.{word_eq, joined_is}
use Rattle.rows.specs.Sums.{◌⊕◌}
use Rattle.rows.specs.Table.{spread, word_of, cut_at}
use Rattle.rows.proofs.Xor.{odd_lt, xor_half}
use Rattle.rows.proofs.Sums.{Additive, shift_on, mod_suc}

-- ---- bits spread

pub spread_lt : (k x : ℕ) → spread k x < 4 ^ k
unfolding spread
spread_lt zero x = omega arith
spread_lt (suc k) x = omega (arith, spread_lt k (x / 2), odd_lt x, pow-suc 4 k)

spread_four : (k x : ℕ) → spread (suc k) x / 4 ≡ spread k (x / 2)
unfolding spread
spread_four k x = let h = odd_lt x in digits_div (spread k (x / 2)) {m = 4} {r = x % 2} (omega arith)

-- only the last k bits count
pub spread_low : (k x : ℕ) → spread k (x % 2 ^ k) ≡ spread k x
unfolding spread
spread_low zero x = refl
spread_low (suc k) x =
    let e = mod_suc x k in
    ap₂ (λ a b. spread k a * 4 + b) (ap (λ m. m / 2) e ∙ digits_div (x / 2 % 2 ^ k) (odd_lt x))
    (ap (λ m. m % 2) e ∙ digits_mod (x / 2 % 2 ^ k) (odd_lt x))
    ∙ ap (λ m. m * 4 + x % 2) (spread_low k (x / 2))

-- cut before the last k symbols
pub spread_high : (t k x : ℕ) → spread (t + k) x / 4 ^ k ≡ spread t (x / 2 ^ k)
spread_high t zero x = rw (add-zero t) (div-one (spread t x) ∙ ap (spread t) (sym (div-one x)))
spread_high t (suc k) x = rw (add-suc t k)
    (ap (λ m. spread (suc (t + k)) x / m) (pow-suc 4 k ∙ mul_comm (4 ^ k) 4) ∙ sym (div-div-eq-div-mul (spread (suc (t + k)) x) 4 (4 ^ k))
    ∙ ap (λ m. m / 4 ^ k) (spread_four (t + k) x) ∙ spread_high t k (x / 2) ∙ ap (spread t) (shift_on x k))

pub spread_rest : (t k x : ℕ) → spread (t + k) x % 4 ^ k ≡ spread k x
unfolding spread
spread_rest t zero x = mod-one (spread (t + 0) x)
spread_rest t (suc k) x = rw (add-suc t k)
    (ap (λ m. spread (suc (t + k)) x % m) (pow-suc 4 k) ∙ mod-mul (spread (suc (t + k)) x) (four_pos k) (lit< tt)
    ∙ ap₂ (λ a b. (a % 4 ^ k) * 4 + b) (spread_four (t + k) x)
    (let h = odd_lt x in digits_mod (spread (t + k) (x / 2)) {m = 4} {r = x % 2} (omega arith))
    ∙ ap (λ m. m * 4 + x % 2) (spread_rest t k (x / 2)))

-- sums are kept
spread_xor : (k x y : ℕ) → spread k (x ⊕ y) ≡ spread k x ⊕ spread k y
unfolding spread
spread_xor zero x y = refl
spread_xor (suc k) x y =
    ap₂ (λ a b. a * 4 + b) (ap (spread k) (xor_half x y) ∙ spread_xor k (x / 2) (y / 2)) (xor_mod x y 1)
    ∙ sym (xor_block 2 (spread k (x / 2)) (spread k (y / 2)) (x % 2) (y % 2) (omega (arith, odd_lt x)) (omega (arith, odd_lt y)))

pub spread_adds : (k : ℕ) → Additive (spread k)
spread_adds k = record { adds = spread_xor k }

-- the order is kept
pub spread_less : (k x y : ℕ) → x % 2 ^ k < y % 2 ^ k → spread k x < spread k y
unfolding spread
spread_less zero x y h = absurd (omega (arith, mod-one x, mod-one y))
spread_less (suc k) x y h = go (dec_lt (x / 2 % 2 ^ k) (y / 2 % 2 ^ k)) (spread_less k (x / 2) (y / 2))
  where
    go : Dec (x / 2 % 2 ^ k < y / 2 % 2 ^ k) → (x / 2 % 2 ^ k < y / 2 % 2 ^ k → spread k (x / 2) < spread k (y / 2))
        → spread k (x / 2) * 4 + x % 2 < spread k (y / 2) * 4 + y % 2
    go (yes p) r = omega (arith, r p, odd_lt x)
    go (no p) r =
        let e : x / 2 % 2 ^ k ≡ y / 2 % 2 ^ k = omega (arith, mod_suc x k, mod_suc y k, odd_lt x, odd_lt y) in
        let f : spread k (x / 2) ≡ spread k (y / 2) = sym (spread_low k (x / 2)) ∙ ap (spread k) e ∙ spread_low k (y / 2) in
        omega (arith, mod_suc x k, mod_suc y k)

-- ---- the order of words

module _ (s n : ℕ) where
  pub words_rise : (x y : ℕ) → x < y → Before (word_of s n x) (word_of s n y)
  words_rise x y h = go (dec_lt X Y) (ℕ_discrete X Y)
    where
      X : ℕ
      X = x / 2 ^ (n + s)

      Y : ℕ
      Y = y / 2 ^ (n + s)

      root_is : (z : ℕ) → z / 2 ^ s / 2 ^ n ≡ z / 2 ^ (n + s)
      root_is z = shr-shr z s n ∙ ap (λ k. z / 2 ^ k) (add_comm s n)

      upper : (z : ℕ) → z / 2 ^ s ≡ z / 2 ^ (n + s) * 2 ^ n + z / 2 ^ s % 2 ^ n
      upper z = sym (split (z / 2 ^ s) n) ∙ ap (λ k. k * 2 ^ n + z / 2 ^ s % 2 ^ n) (root_is z)

      labels : X ≡ Y → Dec (x / 2 ^ s % 2 ^ n < y / 2 ^ s % 2 ^ n) → Before (word_of s n x) (word_of s n y)
      labels e (yes p) = by_second e (spread_less n (x / 2 ^ s) (y / 2 ^ s) p)
      labels e (no p) =
          let m : X * 2 ^ n ≡ Y * 2 ^ n = ap (λ k. k * 2 ^ n) e in
          let q : x / 2 ^ s ≡ y / 2 ^ s = omega (arith, upper x, upper y, shr_mono {a = x} {b = y} s (omega arith)) in
          let w : x / 2 ^ s * 2 ^ s ≡ y / 2 ^ s * 2 ^ s = ap (λ k. k * 2 ^ s) q in
          by_third e (ap (spread n) q) (omega (arith, split x s, split y s))

      go : Dec (X < Y) → Dec (X ≡ Y) → Before (word_of s n x) (word_of s n y)
      go (yes p) d = by_first p
      go (no p) (yes e) = labels e (dec_lt (x / 2 ^ s % 2 ^ n) (y / 2 ^ s % 2 ^ n))
      go (no p) (no e) = absurd (omega (arith, shr_mono {a = x} {b = y} (n + s) (omega arith)))

  pub word_same : (x y : ℕ) → word_of s n x ≡ word_of s n y → x ≡ y
  word_same x y e = go (dec_lt x y) (dec_lt y x)
    where
      go : Dec (x < y) → Dec (y < x) → x ≡ y
      go (yes p) d = absurd (lower_never _ _ _ (subst (λ w. Before w (word_of s n y)) e (words_rise x y p)))
      go (no p) (yes q) = absurd (lower_never _ _ _ (subst (λ w. Before (word_of s n y) w) e (words_rise y x q)))
      go (no p) (no q) = omega arith

  -- ---- a cut at depth t, with c bits behind it

  module _ (t : ℕ) (inside : t ≤ n) where
    abbrev c : ℕ
    c = cut_at s n t

    root_cut : (z : ℕ) → z / 2 ^ (n + s) ≡ z / 2 ^ c / 2 ^ t
    root_cut z = let e : n + s ≡ c + t = omega arith in ap (λ k. z / 2 ^ k) e ∙ sym (shr-shr z c t)

    pub front_cut : (z : ℕ) → front n t (spread n (z / 2 ^ s)) ≡ spread t (z / 2 ^ c)
    unfolding front
    front_cut z =
        let e : n ≡ t + (n - t) = omega arith in
        ap (λ k. spread k (z / 2 ^ s) / 4 ^ (n - t)) e ∙ spread_high t (n - t) (z / 2 ^ s)
        ∙ ap (spread t) (shr-shr z s (n - t) ∙ ap (λ k. z / 2 ^ k) (add_comm s (n - t)))

    back_cut : (z : ℕ) → back n t (spread n (z / 2 ^ s)) ≡ spread (n - t) (z % 2 ^ c / 2 ^ s)
    unfolding back
    back_cut z =
        let e : n ≡ t + (n - t) = omega arith in
        ap (λ k. spread k (z / 2 ^ s) % 4 ^ (n - t)) e ∙ spread_rest t (n - t) (z / 2 ^ s)
        ∙ sym (spread_low (n - t) (z / 2 ^ s)) ∙ ap (spread (n - t)) (sym (field z (n - t) s))

    abbrev pub splice_at : ℕ → ℕ → ℕ
    splice_at x y = x / 2 ^ c * 2 ^ c + y % 2 ^ c

    splice_high : (x y : ℕ) → splice_at x y / 2 ^ c ≡ x / 2 ^ c
    splice_high x y = high (x / 2 ^ c) c (mod-lt y (pow_pos c))

    splice_low : (x y : ℕ) → splice_at x y % 2 ^ c ≡ y % 2 ^ c
    splice_low x y = low (x / 2 ^ c) c (mod-lt y (pow_pos c))

    pub word_joined : (x y : ℕ) → word_of s n (splice_at x y) ≡ joined n t (word_of s n x) (word_of s n y)
    word_joined x y = word_eq {v = word_of s n (splice_at x y)} {w = joined n t (word_of s n x) (word_of s n y)}
        (root_cut (splice_at x y) ∙ ap (λ k. k / 2 ^ t) (splice_high x y) ∙ sym (root_cut x))
        (by_parts n t (spread n (x / 2 ^ s)) (spread n (y / 2 ^ s)) (spread n (splice_at x y / 2 ^ s))
        (front_cut (splice_at x y) ∙ ap (spread t) (splice_high x y) ∙ sym (front_cut x))
        (back_cut (splice_at x y) ∙ ap (λ k. spread (n - t) (k / 2 ^ s)) (splice_low x y) ∙ sym (back_cut y)))
        (sym (mod-mod-pow (splice_at x y) (n - t) s) ∙ ap (λ k. k % 2 ^ s) (splice_low x y) ∙ mod-mod-pow y (n - t) s)

    -- equal beginnings are equal high bits, equal endings equal low bits
    pub same_high : (x y : ℕ) → beginning n t (word_of s n x) ≡ beginning n t (word_of s n y) → x / 2 ^ c ≡ y / 2 ^ c
    same_high x y e =
        let f : word_of s n y ≡ word_of s n (splice_at x y) =
        joined_is n t (word_of s n y) (word_of s n x) (word_of s n y) (sym e) refl ∙ sym (word_joined x y) in
        sym (splice_high x y) ∙ ap (λ k. k / 2 ^ c) (sym (word_same y (splice_at x y) f))

    pub same_low : (x y : ℕ) → ending n t (word_of s n x) ≡ ending n t (word_of s n y) → x % 2 ^ c ≡ y % 2 ^ c
    same_low x y e =
        let f : word_of s n x ≡ word_of s n (splice_at x y) =
        joined_is n t (word_of s n x) (word_of s n x) (word_of s n y) refl e ∙ sym (word_joined x y) in
        ap (λ k. k % 2 ^ c) (word_same x (splice_at x y) f) ∙ splice_low x y
