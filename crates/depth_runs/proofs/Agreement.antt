-- The test of one word and of all words. The code's test is the definition's, read off the rows; it is true exactly if the runs agree, and
-- it looks at words only, so rows that are right on the words give the same answer.
use mathlib.Core.Path.{◌≡◌, refl, sym, ap, ap₂, ◌∙◌}
use mathlib.Core.Bool.{Bool, true, false, ◌&&◌, beq}
use mathlib.Core.Logic.{◌↔◌}
use mathlib.Core.List.{List}
use Prim.Native.Nat.{ℕ, zero, suc, ◌+◌, ◌-◌, ◌≤◌, ◌<◌}
use native.Mathlib.Omega.{arith}
use native.Mathlib.Nat.{not-suc-le-zero}
use native.Mathlib.Numerals.{add-one}
use native.Mathlib.Decide.{ℕ_discrete, dec_lt}
use lib.Dec.{eqb, eqb→eq}
use borrow.Author.Tests.{eq-eqb, ne_eqb, lt-ltb, le-ltb}
use Rattle.trellis.proofs.Bools.{holds, is_true, both}
use Rattle.trellis.specs.Lists.{all}
use Rattle.runs.specs.Inner.Runs.{goes_on, Agrees}
use Rattle.depth_runs.specs.Inner.Rows.{at, first_word_in, agrees_test, runs_agree_test}

-- ---- one word

module _ (W : ℕ) (starts firsts : List ℕ) (i start own other : ℕ) (p : start ≡ at starts i) (q : own ≡ first_word_in starts firsts i)
    (r : other ≡ first_word_in starts firsts start) where
  pub agrees_no : (own ≡ other → ⊥) → false ≡ agrees_test W (at starts) (first_word_in starts firsts) i
  unfolding agrees_test
  agrees_no h = simp (ne_eqb (first_word_in starts firsts i) (first_word_in starts firsts (at starts i))
      (λ e. h (q ∙ e ∙ sym (r ∙ ap (first_word_in starts firsts) p))))

  pub agrees_yes : (a b : Bool) → own ≡ other → a ≡ goes_on W (at starts) i → b ≡ goes_on W (at starts) (own + (i - start))
      → beq a b ≡ agrees_test W (at starts) (first_word_in starts firsts) i
  unfolding agrees_test
  agrees_yes a b h x y =
      simp (eq-eqb (first_word_in starts firsts i) (first_word_in starts firsts (at starts i))
      (sym q ∙ h ∙ r ∙ ap (first_word_in starts firsts) p))
      (ap₂ beq x (y ∙ ap₂ (λ u v. goes_on W (at starts) (u + (i - v))) q p))

beq_true : (a b : Bool) → beq a b ≡ true → a ≡ b
beq_true true true e = refl
beq_true true false e = sym e
beq_true false true e = e
beq_true false false e = refl

beq_same : (a : Bool) → beq a a ≡ true
beq_same true = refl
beq_same false = refl

pub agrees_iff : (W : ℕ) (s f : ℕ → ℕ) (i : ℕ) → (agrees_test W s f i ≡ true) ↔ Agrees W s f i
unfolding agrees_test
agrees_iff W s f i = (to, from)
  where
    to : (eqb (f i) (f (s i)) && beq (goes_on W s i) (goes_on W s (f i + (i - s i)))) ≡ true → Agrees W s f i
    to e =
        let p = both (eqb (f i) (f (s i))) (beq (goes_on W s i) (goes_on W s (f i + (i - s i)))) (holds e) in
        record { firsts = eqb→eq (f i) (f (s i)) p.0; lasts = beq_true (goes_on W s i) (goes_on W s (f i + (i - s i))) (is_true _ p.1) }

    from : Agrees W s f i → (eqb (f i) (f (s i)) && beq (goes_on W s i) (goes_on W s (f i + (i - s i)))) ≡ true
    from A = ap₂ (λ x y. x && y) (eq-eqb (f i) (f (s i)) A.firsts)
        (ap (beq (goes_on W s i)) (sym A.lasts) ∙ beq_same (goes_on W s i))

-- ---- only words matter

module _ (W : ℕ) (s u : ℕ → ℕ) (same : (i : ℕ) → i < W → s i ≡ u i) where
  goes_cong : (i : ℕ) → i < W → goes_on W s i ≡ goes_on W u i
  goes_cong i h = go (dec_lt (i + 1) W)
    where
      go : Dec (i + 1 < W) → goes_on W s i ≡ goes_on W u i
      go (yes l) = rw (lt-ltb (i + 1) W l) (ap₂ eqb (same (i + 1) l) (same i h))
      go (no l) = let k : W ≤ i + 1 = omega arith in simp (le-ltb (i + 1) W k)

  module _ (f g : ℕ → ℕ) (alike : (i : ℕ) → i < W → f i ≡ g i) where
    pub agrees_cong : (i : ℕ) → i < W → u i ≤ i → g i ≤ u i → agrees_test W s f i ≡ agrees_test W u g i
    unfolding agrees_test
    agrees_cong i h a b =
        let p : f i + (i - s i) ≡ g i + (i - u i) = ap₂ (λ x y. x + (i - y)) (alike i h) (same i h) in
        ap₂ (λ x y. x && y)
        (ap₂ eqb (alike i h) (ap f (same i h) ∙ alike (u i) (omega arith)))
        (ap₂ beq (goes_cong i h) (ap (goes_on W s) p ∙ goes_cong (g i + (i - u i)) (omega arith)))

-- ---- all words

pub all_iff : (p : ℕ → Bool) (m : ℕ) → (all p m ≡ true) ↔ ((i : ℕ) → i < m → p i ≡ true)
unfolding all
all_iff p zero = (λ e i h. absurd (not-suc-le-zero h), λ f. refl)
all_iff p (suc m) = (to (all_iff p m).0, from (all_iff p m).1)
  where
    to : (all p m ≡ true → (i : ℕ) → i < m → p i ≡ true) → (all p m && p m) ≡ true → (i : ℕ) → i < suc m → p i ≡ true
    to r e i h = go (ℕ_discrete i m)
      where
        go : Dec (i ≡ m) → p i ≡ true
        go (yes q) = ap p q ∙ is_true _ (both (all p m) (p m) (holds e)).1
        go (no q) = r (is_true _ (both (all p m) (p m) (holds e)).0) i (omega arith)

    from : (((i : ℕ) → i < m → p i ≡ true) → all p m ≡ true) → ((i : ℕ) → i < suc m → p i ≡ true) → (all p m && p m) ≡ true
    from r f = ap₂ (λ x y. x && y) (r (λ i h. f i (omega arith))) (f m (omega arith))

all_fails : (p : ℕ → Bool) (i m : ℕ) → p i ≡ false → i < m → all p m ≡ false
unfolding all
all_fails p i zero e h = absurd (omega arith)
all_fails p i (suc m) e h = go (ℕ_discrete i m) (all_fails p i m e)
  where
    and_false : (b : Bool) → (b && false) ≡ false
    and_false true = refl
    and_false false = refl

    go : Dec (i ≡ m) → (i < m → all p m ≡ false) → (all p m && p m) ≡ false
    go (yes q) r = ap (λ b. all p m && b) (ap p (sym q) ∙ e) ∙ and_false (all p m)
    go (no q) r = ap (λ b. b && p m) (r (omega arith))

pub record InAgreement (W : ℕ) (starts firsts : List ℕ) (i : ℕ) : Type 0 where
  pub i_le : i ≤ W
  pub so_far : all (agrees_test W (at starts) (first_word_in starts firsts)) i ≡ true

pub agreement_none : (W : ℕ) (starts firsts : List ℕ) → InAgreement W starts firsts 0
unfolding all
agreement_none W starts firsts = record { i_le = omega arith; so_far = refl }

module _ {W : ℕ} {starts firsts : List ℕ} {i : ℕ} (c : InAgreement W starts firsts i) where
  pub agreement_more : agrees_test W (at starts) (first_word_in starts firsts) i ≡ true → i < W → InAgreement W starts firsts (i + 1)
  unfolding all
  agreement_more e h = record { i_le = omega arith; so_far = rw (add-one i) (simp (c.so_far, e)) }

  pub agreement_no : agrees_test W (at starts) (first_word_in starts firsts) i ≡ false → i < W → false ≡ runs_agree_test W starts firsts
  unfolding runs_agree_test
  agreement_no e h = sym (all_fails (agrees_test W (at starts) (first_word_in starts firsts)) i W e h)

  pub agreement_yes : W ≤ i → true ≡ runs_agree_test W starts firsts
  unfolding runs_agree_test
  agreement_yes h =
      let e : i ≡ W = omega (arith, c.i_le) in
      sym (sym (ap (all (agrees_test W (at starts) (first_word_in starts firsts))) e) ∙ c.so_far)
