-- The first number on which f has the value that it has on i: it is no later than i, it has the value, and no earlier number has it.
-- So two numbers with one value have one such first number, and only values up to i matter.
use mathlib.Core.Path.{◌≡◌, sym, ap, ◌∙◌}
use mathlib.Core.Logic.{◌↔◌}
use Prim.Native.Nat.{ℕ, ◌≤◌, ◌<◌}
use native.Mathlib.Omega.{arith}
use native.Mathlib.Decide.{dec_lt}
use lib.Dec.{eqb, eqb→eq}
use Rattle.trellis.specs.Lists.{first}
use Rattle.trellis.proofs.Bools.{eqb_of, same_test}
use Rattle.trellis.proofs.Lists.{First, first_ok}
use Rattle.runs.specs.Inner.Runs.{first_like}

pub eqb_iff : (a b c d : ℕ) → ((a ≡ b) ↔ (c ≡ d)) → eqb a b ≡ eqb c d
eqb_iff a b c d f = same_test (eqb a b) (eqb c d) (λ u. eqb_of (f.0 (eqb→eq a b u))) (λ u. eqb_of (f.1 (eqb→eq c d u)))

module _ (f : ℕ → ℕ) where
  pub like_le : (i : ℕ) → first_like f i ≤ i
  unfolding first_like
  like_le i = (first_ok (λ j. eqb (f j) (f i)) i).most

  pub like_is : (i : ℕ) → f (first_like f i) ≡ f i
  unfolding first_like
  like_is i = go (first (λ j. eqb (f j) (f i)) i) (first_ok (λ j. eqb (f j) (f i)) i) (dec_lt (first (λ j. eqb (f j) (f i)) i) i)
    where
      go : (k : ℕ) → First (λ j. eqb (f j) (f i)) i k → Dec (k < i) → f k ≡ f i
      go k F (yes h) = eqb→eq (f k) (f i) (F.hit h)
      go k F (no h) = let e : k ≡ i = omega (arith, F.most) in ap f e

  pub like_least : (i j : ℕ) → f j ≡ f i → first_like f i ≤ j
  unfolding first_like
  like_least i j e = go (dec_lt j (first (λ k. eqb (f k) (f i)) i))
    where
      go : Dec (j < first (λ k. eqb (f k) (f i)) i) → first (λ k. eqb (f k) (f i)) i ≤ j
      go (yes p) = absurd ((first_ok (λ k. eqb (f k) (f i)) i).miss j p (eqb_of e))
      go (no p) = omega arith

  pub like_eq : (i j : ℕ) → f i ≡ f j → first_like f i ≡ first_like f j
  like_eq i j e =
      let a = like_least i (first_like f j) (like_is j ∙ sym e) in
      let b = like_least j (first_like f i) (like_is i ∙ e) in
      omega arith

  pub like_twice : (i : ℕ) → first_like f (first_like f i) ≡ first_like f i
  like_twice i = like_eq (first_like f i) i (like_is i)

pub like_cong : (f g : ℕ → ℕ) (i : ℕ) → ((j : ℕ) → j ≤ i → f j ≡ g j) → first_like f i ≡ first_like g i
like_cong f g i h =
    let p = like_least g i (first_like f i) (sym (h (first_like f i) (like_le f i)) ∙ like_is f i ∙ h i (omega arith)) in
    let q = like_least f i (first_like g i) (h (first_like g i) (like_le g i) ∙ like_is g i ∙ sym (h i (omega arith))) in
    omega arith
