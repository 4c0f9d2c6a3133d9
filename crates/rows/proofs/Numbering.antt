-- Numbers by first occurrence, doubled: let the first 2 ^ b have 2 ^ d numbers. If some j among them has g j = g (2 ^ b), then 2 ^ b + i
-- has the number of j + i modulo 2. Else none of the next 2 ^ b has an old number: they repeat what the first did, 2 ^ d higher, since the
-- first with the value of 2 ^ b + i is 2 ^ b and the first with that of i.
use mathlib.Core.Path.{◌≡◌, refl, sym, ap, ap₂, subst, ◌∙◌}
use mathlib.Core.Bool.{Bool, false}
use mathlib.Core.List.{[], ◌∷◌, ◌++◌}
use Prim.Native.Nat.{ℕ, zero, suc, ◌+◌, ◌-◌, ◌^◌, ◌≤◌, ◌<◌}
use native.Mathlib.Omega.{arith}
use native.Mathlib.Nat.{add-zero, add-suc, pow-suc}
use native.Mathlib.Decide.{dec_lt}
use lib.ListN.{length-append}
use lib.Dec.{eqb}
use lib.Bits.{xor_lt}
use borrow.Author.Tests.{eq-eqb, ne_eqb}
use Rattle.trellis.specs.Lists.{one_if}
use Rattle.runs.specs.Inner.Runs.{first_like, below, number_of}
use Rattle.runs.proofs.FirstLike.{like_le, like_is, like_least, like_eq, eqb_iff}
use Rattle.runs.proofs.Counting.{below_cong}
use Rattle.rows.specs.Sums.{◌⊕◌, sum_of, choices}
use Rattle.rows.specs.Inner.Numbering.{number, numbers_below, Numbered}
use Rattle.rows.proofs.Xor.{power_xor, xor_again, xor_twice}
use Rattle.rows.proofs.Sums.{Additive, sum_xor, sum_nil, sum_last_low, sum_last_high}

-- ---- counts

below_add : (p : ℕ → Bool) (m k : ℕ) → below p (m + k) ≡ below p m + below (λ e. p (m + e)) k
unfolding below
below_add p m zero = rw (add-zero m) (omega arith)
below_add p m (suc k) = rw (add-suc m k) (omega (arith, below_add p m k))

below_none : (p : ℕ → Bool) (k : ℕ) → ((e : ℕ) → e < k → p e ≡ false) → below p k ≡ 0
unfolding below
below_none p zero h = refl
below_none p (suc k) h = omega (arith, below_none p k (λ e l. h e (omega arith)), ap one_if (h k (omega arith)))

-- ---- the higher half

double : (b : ℕ) → 2 ^ suc b ≡ 2 ^ b + 2 ^ b
double b = omega (arith, pow-suc 2 b)

number_same : (g : ℕ → ℕ) (i j : ℕ) → g i ≡ g j → number g i ≡ number g j
unfolding number_of
number_same g i j e = ap (below (λ k. eqb (first_like g k) k)) (like_eq g i j e)

module _ {g : ℕ → ℕ} (A : Additive g) where
  pub numbered_none : Numbered g 0 0
  unfolding number_of below
  numbered_none = record {
    parts = [];
    wide = refl;
    count = ap (λ b. 0 + one_if b) (eq-eqb (first_like g 0) 0 zeroth);
    is = λ i h. let e : i ≡ 0 = omega arith in ap (number g) e ∙ at_zero ∙ sym (sum_nil i);
    small = λ i h. let e : i ≡ 0 = omega arith in omega (arith, ap (number g) e ∙ at_zero);
  }
    where
      zeroth : first_like g 0 ≡ 0
      zeroth = omega (arith, like_le g 0)

      at_zero : number g 0 ≡ 0
      at_zero = ap (below (λ k. eqb (first_like g k) k)) zeroth

  module _ {b d : ℕ} (L : Numbered g b d) where
    pub high_value : (j : ℕ) → j < 2 ^ b → g (2 ^ b + j) ≡ g (2 ^ b) ⊕ g j
    high_value j h = ap g (sym (power_xor b j h)) ∙ A.adds (2 ^ b) j

    same_choices : 2 ^ b ≡ choices L.parts
    same_choices = ap (λ k. 2 ^ k) (sym L.wide)

    -- one part more, where the higher half has the numbers that this part makes
    grow : (c e : ℕ) → numbers_below g (2 ^ suc b) ≡ 2 ^ e → ((j : ℕ) → j < 2 ^ b → number g (2 ^ b + j) ≡ c ⊕ number g j)
        → ((i : ℕ) → i < 2 ^ suc b → number g i < 2 ^ e) → Numbered g (suc b) e
    grow c e n h s = record {
      parts = L.parts ++ (c ∷ []);
      wide = length-append L.parts (c ∷ []) ∙ omega (arith, L.wide);
      count = n;
      is = λ i k. go i k (dec_lt i (2 ^ b));
      small = s;
    }
      where
        high : (j : ℕ) → j < 2 ^ b → number g (2 ^ b + j) ≡ sum_of (L.parts ++ (c ∷ [])) (2 ^ b + j)
        high j k = h j k ∙ ap (λ x. c ⊕ x) (L.is j k) ∙ sym (sum_last_high L.parts c j (subst (λ m. j < m) same_choices k))
            ∙ ap (λ m. sum_of (L.parts ++ (c ∷ [])) (m + j)) (sym same_choices)

        go : (i : ℕ) → i < 2 ^ suc b → Dec (i < 2 ^ b) → number g i ≡ sum_of (L.parts ++ (c ∷ [])) i
        go i k (yes l) = L.is i l ∙ sym (sum_last_low L.parts c i (subst (λ m. i < m) same_choices l))
        go i k (no l) =
            let q : 2 ^ b + (i - 2 ^ b) ≡ i = omega arith in
            subst (λ x. number g x ≡ sum_of (L.parts ++ (c ∷ [])) x) q (high (i - 2 ^ b) (omega (arith, double b)))

    split_half : (P : ℕ → Type 0) → ((i : ℕ) → i < 2 ^ b → P i) → ((j : ℕ) → j < 2 ^ b → P (2 ^ b + j)) → (i : ℕ) → i < 2 ^ suc b → P i
    split_half P low high i k = go (dec_lt i (2 ^ b))
      where
        go : Dec (i < 2 ^ b) → P i
        go (yes l) = low i l
        go (no l) = let q : 2 ^ b + (i - 2 ^ b) ≡ i = omega arith in subst P q (high (i - 2 ^ b) (omega (arith, double b)))

    -- ---- an earlier one has the value

    module _ (o : ℕ) (early : o < 2 ^ b) (same : g o ≡ g (2 ^ b)) where
      old_value : (j : ℕ) → j < 2 ^ b → g (2 ^ b + j) ≡ g (o ⊕ j)
      old_value j h = high_value j h ∙ ap (λ x. x ⊕ g j) (sym same) ∙ sym (A.adds o j)

      pub number_old : (j : ℕ) → j < 2 ^ b → number g (2 ^ b + j) ≡ number g o ⊕ number g j
      number_old j h = number_same g (2 ^ b + j) (o ⊕ j) (old_value j h)
          ∙ L.is (o ⊕ j) (xor_lt b o j early h) ∙ (sum_xor L.parts).adds o j ∙ ap₂ (λ x y. x ⊕ y) (sym (L.is o early)) (sym (L.is j h))

      pub numbered_old : Numbered g (suc b) d
      numbered_old = grow (number g o) d
          (ap (numbers_below g) (double b) ∙ below_add (λ j. eqb (first_like g j) j) (2 ^ b) (2 ^ b)
          ∙ omega (arith, L.count, below_none (λ e. eqb (first_like g (2 ^ b + e)) (2 ^ b + e)) (2 ^ b) never))
          number_old
          (split_half (λ i. number g i < 2 ^ d) L.small
          (λ j h. subst (λ x. x < 2 ^ d) (sym (number_old j h)) (xor_lt d (number g o) (number g j) (L.small o early) (L.small j h))))
        where
          never : (e : ℕ) → e < 2 ^ b → eqb (first_like g (2 ^ b + e)) (2 ^ b + e) ≡ false
          never e h = ne_eqb (first_like g (2 ^ b + e)) (2 ^ b + e)
              (λ q. let l = like_least g (2 ^ b + e) (o ⊕ e) (sym (old_value e h)) in let k = xor_lt b o e early h in omega arith)

    -- ---- none has

    module _ (fresh : (o : ℕ) → o < 2 ^ b → g o ≡ g (2 ^ b) → ⊥) where
      -- no earlier one has the value of one of the higher half
      fresh_high : (j o : ℕ) → j < 2 ^ b → o < 2 ^ b → g o ≡ g (2 ^ b + j) → ⊥
      fresh_high j o h k e = fresh (o ⊕ j) (xor_lt b o j k h)
          (A.adds o j ∙ ap (λ x. x ⊕ g j) (e ∙ high_value j h) ∙ xor_again (g (2 ^ b)) (g j))

      same_high : (e j : ℕ) → e < 2 ^ b → j < 2 ^ b → g (2 ^ b + e) ≡ g (2 ^ b + j) → g e ≡ g j
      same_high e j k h q = sym (xor_twice (g (2 ^ b)) (g e)) ∙ ap (λ x. g (2 ^ b) ⊕ x) (sym (high_value e k) ∙ q ∙ high_value j h)
          ∙ xor_twice (g (2 ^ b)) (g j)

      first_high : (j : ℕ) → j < 2 ^ b → first_like g (2 ^ b + j) ≡ 2 ^ b + first_like g j
      first_high j h = go (first_like g (2 ^ b + j)) refl
        where
          up : first_like g (2 ^ b + j) ≤ 2 ^ b + first_like g j
          up = like_least g (2 ^ b + j) (2 ^ b + first_like g j)
              (high_value (first_like g j) (omega (arith, like_le g j)) ∙ ap (λ x. g (2 ^ b) ⊕ x) (like_is g j) ∙ sym (high_value j h))

          go : (k : ℕ) → first_like g (2 ^ b + j) ≡ k → first_like g (2 ^ b + j) ≡ 2 ^ b + first_like g j
          go k q = by (dec_lt k (2 ^ b))
            where
              value : g k ≡ g (2 ^ b + j)
              value = ap g (sym q) ∙ like_is g (2 ^ b + j)

              by : Dec (k < 2 ^ b) → first_like g (2 ^ b + j) ≡ 2 ^ b + first_like g j
              by (yes s) = absurd (fresh_high j k h s value)
              by (no s) =
                  let m : 2 ^ b + (k - 2 ^ b) ≡ k = omega arith in
                  let w : first_like g j ≤ k - 2 ^ b =
                  like_least g j (k - 2 ^ b) (same_high (k - 2 ^ b) j (omega (arith, like_le g (2 ^ b + j))) h (ap g m ∙ value)) in
                  omega (arith, up)

      kept_high : (e : ℕ) → e < 2 ^ b → eqb (first_like g (2 ^ b + e)) (2 ^ b + e) ≡ eqb (first_like g e) e
      kept_high e h = eqb_iff (first_like g (2 ^ b + e)) (2 ^ b + e) (first_like g e) e
          (λ q. omega (arith, first_high e h), λ q. omega (arith, first_high e h))

      below_high : (m : ℕ) → m ≤ 2 ^ b → numbers_below g (2 ^ b + m) ≡ 2 ^ d + numbers_below g m
      below_high m h = below_add (λ j. eqb (first_like g j) j) (2 ^ b) m
          ∙ ap₂ (λ x y. x + y) L.count
          (below_cong (λ e. eqb (first_like g (2 ^ b + e)) (2 ^ b + e)) (λ e. eqb (first_like g e) e) m (λ e k. kept_high e (omega arith)))

      number_add : (j : ℕ) → j < 2 ^ b → number g (2 ^ b + j) ≡ 2 ^ d + number g j
      unfolding number_of
      number_add j h = ap (numbers_below g) (first_high j h) ∙ below_high (first_like g j) (omega (arith, like_le g j))

      pub number_new : (j : ℕ) → j < 2 ^ b → number g (2 ^ b + j) ≡ 2 ^ d ⊕ number g j
      number_new j h = number_add j h ∙ sym (power_xor d (number g j) (L.small j h))

      pub numbered_new : Numbered g (suc b) (suc d)
      numbered_new = grow (2 ^ d) (suc d)
          (ap (numbers_below g) (double b) ∙ below_high (2 ^ b) (omega arith) ∙ omega (arith, L.count, double d))
          number_new
          (split_half (λ i. number g i < 2 ^ suc d) (λ i h. omega (arith, L.small i h, double d))
          (λ j h. omega (arith, number_add j h, L.small j h, double d)))
