-- Tests over all numbers below a count, and over some of them: what they say, and how a loop makes them. A loop that leaves at the first
-- number that fails has shown of every number passed that the test holds there; one failure decides the whole test.
use mathlib.Core.Path.{◌≡◌, refl, sym, ap, ap₂, ◌∙◌}
use mathlib.Core.Bool.{Bool, true, false, not, ◌&&◌, ◌||◌}
use Prim.Native.Nat.{ℕ, zero, suc, ◌+◌, ◌≤◌, ◌<◌}
use native.Mathlib.Omega.{arith}
use native.Mathlib.Nat.{not-suc-le-zero}
use native.Mathlib.Numerals.{add-one}
use native.Mathlib.Decide.{ℕ_discrete}
use lib.Dec.{leb}
use borrow.Author.Tests.{leb-true, le-leb, not-true, not-false}
use Rattle.trellis.specs.Lists.{all, any, within}
use Rattle.trellis.proofs.Bools.{holds, is_true, same_test, clash, left_true, right_true, both_true, and_false}

-- ---- two tests

-- not a, or b
pub given : (a b : Bool) → (not a || b) ≡ true → a ≡ true → b ≡ true
given true b e t = e
given false b e t = absurd (clash (sym t))

pub given_of : (a b : Bool) → (a ≡ true → b ≡ true) → (not a || b) ≡ true
given_of true b f = f refl
given_of false b f = refl

pub if_so : (a b : Bool) {d : Bool} → not a ≡ false → d ≡ b → d ≡ (not a || b)
if_so a b e f = f ∙ rw e

pub same_if : {a b : Bool} → (a ≡ true → b ≡ true) → (b ≡ true → a ≡ true) → a ≡ b
same_if {a} {b} f g = same_test a b (λ t. holds (f (is_true a t))) (λ t. holds (g (is_true b t)))

-- a call answered that a condition holds, or that it does not
pub holds_by : {a b : Bool} → a ≡ b → not a ≡ false → b ≡ true
holds_by {a} e t = sym e ∙ not-false a t

pub fails_by : {a b : Bool} → a ≡ b → not a ≡ true → b ≡ true → ⊥
fails_by {a} e t q = clash (sym q ∙ sym e ∙ not-true a t)

-- conditions one behind another: the first that fails decides
pub and_fails : {a b : Bool} (d : Bool) → a ≡ b → not a ≡ true → false ≡ (b && d)
and_fails {a} d e t = let q = sym e ∙ not-true a t in rw q

pub and_rest : {a b d r : Bool} → a ≡ b → not a ≡ false → r ≡ d → r ≡ (b && d)
and_rest {a} e t f = let q = sym e ∙ not-false a t in f ∙ rw q

-- ---- a number within bounds

pub from_low_lem : (low high x : ℕ) → within low high x ≡ true → low ≤ x
unfolding within
from_low_lem low high x e = leb-true low x (left_true (leb low x) (leb x high) e)

pub to_high : (low high x : ℕ) → within low high x ≡ true → x ≤ high
unfolding within
to_high low high x e = leb-true x high (right_true (leb low x) (leb x high) e)

pub within_of : {low high x : ℕ} → low ≤ x → x ≤ high → within low high x ≡ true
unfolding within
within_of {low} {high} {x} h k = both_true (le-leb low x h) (le-leb x high k)

-- ---- all and some

module _ (test : ℕ → Bool) where
  pub all_at : (count k : ℕ) → all test count ≡ true → k < count → test k ≡ true
  unfolding all
  all_at zero k e h = absurd (not-suc-le-zero h)
  all_at (suc count) k e h = go (ℕ_discrete k count) (all_at count k)
    where
      go : Dec (k ≡ count) → (all test count ≡ true → k < count → test k ≡ true) → test k ≡ true
      go (yes q) r = ap test q ∙ right_true (all test count) (test count) e
      go (no q) r = r (left_true (all test count) (test count) e) (omega arith)

  pub all_of : (count : ℕ) → ((k : ℕ) → k < count → test k ≡ true) → all test count ≡ true
  unfolding all
  all_of zero f = refl
  all_of (suc count) f = both_true (all_of count (λ k h. f k (omega arith))) (f count (omega arith))

  pub all_fails : (count k : ℕ) → k < count → test k ≡ false → all test count ≡ false
  unfolding all
  all_fails zero k h e = absurd (not-suc-le-zero h)
  all_fails (suc count) k h e = go (ℕ_discrete k count) (all_fails count k)
    where
      go : Dec (k ≡ count) → (k < count → test k ≡ false → all test count ≡ false) → (all test count && test count) ≡ false
      go (yes q) r = and_false (all test count) (test count) (ap test (sym q) ∙ e)
      go (no q) r = simp (r (omega arith) e)

  -- a number at which the test passes
  pub record Some (count : ℕ) : Type 0 where
    pub at : ℕ
    pub below : at < count
    pub passes : test at ≡ true

  pub any_at : (count : ℕ) → any test count ≡ true → Some count
  unfolding any
  any_at zero e = absurd (clash (sym e))
  any_at (suc count) e = go (any test count) (test count) refl (any_at count) e
    where
      go : (a b : Bool) → test count ≡ b → (a ≡ true → Some count) → (a || b) ≡ true → Some (suc count)
      go true b q r t = let s = r refl in record { at = s.at; below = omega (arith, s.below); passes = s.passes }
      go false b q r t = record { at = count; below = omega arith; passes = q ∙ t }

  pub any_of : (count k : ℕ) → k < count → test k ≡ true → any test count ≡ true
  unfolding any
  any_of zero k h e = absurd (not-suc-le-zero h)
  any_of (suc count) k h e = go (ℕ_discrete k count) (any_of count k)
    where
      last : (a b : Bool) → b ≡ true → (a || b) ≡ true
      last true b t = refl
      last false b t = t

      go : Dec (k ≡ count) → (k < count → test k ≡ true → any test count ≡ true) → (any test count || test count) ≡ true
      go (yes q) r = last (any test count) (test count) (ap test (sym q) ∙ e)
      go (no q) r = simp (r (omega arith) e)

pub all_same : (f g : ℕ → Bool) (count : ℕ) → ((k : ℕ) → k < count → f k ≡ g k) → all f count ≡ all g count
unfolding all
all_same f g zero h = refl
all_same f g (suc count) h = ap₂ (λ a b. a && b) (all_same f g count (λ k l. h k (omega arith))) (h count (omega arith))

pub all_both : (f g : ℕ → Bool) (count : ℕ) → all (λ k. f k && g k) count ≡ (all f count && all g count)
all_both f g count = same_if
    (λ e. both_true
    (all_of f count (λ k h. left_true _ _ (all_at (λ k. f k && g k) count k e h)))
    (all_of g count (λ k h. right_true (f k) _ (all_at (λ k. f k && g k) count k e h))))
    (λ e. all_of (λ k. f k && g k) count
    (λ k h. both_true (all_at f count k (left_true _ _ e) h) (all_at g count k (right_true (all f count) _ e) h)))

-- ---- in order: where each number is above the one before it, each is above all before it, because the order is transitive

module _ (next : ℕ → Bool) (less : ℕ → ℕ → Bool) (at_first : next 0 ≡ true) (at_next : (k : ℕ) → next (suc k) ≡ less k (suc k))
    (chain : (i j k : ℕ) → less i j ≡ true → less j k ≡ true → less i k ≡ true) where
  later : (count : ℕ) → all next count ≡ true → (j k : ℕ) → j < k → k < count → less j k ≡ true
  later count e j zero a b = absurd (not-suc-le-zero a)
  later count e j (suc k) a b = go (ℕ_discrete j k) (later count e j k)
    where
      here : less k (suc k) ≡ true
      here = sym (at_next k) ∙ all_at next count (suc k) e b

      go : Dec (j ≡ k) → (j < k → k < count → less j k ≡ true) → less j (suc k) ≡ true
      go (yes q) r = ap (λ i. less i (suc k)) q ∙ here
      go (no q) r = chain j k (suc k) (r (omega arith) (omega arith)) here

  each_next : (count : ℕ) → all (λ k. all (λ j. less j k) k) count ≡ true → (k : ℕ) → k < count → next k ≡ true
  each_next count e zero h = at_first
  each_next count e (suc k) h =
      at_next k ∙ all_at (λ j. less j (suc k)) (suc k) k (all_at (λ k. all (λ j. less j k) k) count (suc k) e h) (omega arith)

  pub all_next : (count : ℕ) → all next count ≡ all (λ k. all (λ j. less j k) k) count
  all_next count = same_if
      (λ e. all_of (λ k. all (λ j. less j k) k) count (λ k h. all_of (λ j. less j k) k (λ j i. later count e j k i h)))
      (λ e. all_of next count (each_next count e))

-- ---- a loop that leaves at the first number that fails

-- of the numbers below count, those below k pass
pub record Passed (test : ℕ → Bool) (count k : ℕ) : Type 0 where
  pub inside : k ≤ count
  pub so_far : all test k ≡ true

module _ {test : ℕ → Bool} {count : ℕ} where
  pub passed_start : Passed test count 0
  unfolding all
  passed_start = record { inside = omega arith; so_far = refl }

  module _ {k : ℕ} (p : Passed test count k) where
    pub passed_by : k < count → test k ≡ true → Passed test count (k + 1)
    unfolding all
    passed_by h e = record { inside = omega arith; so_far = rw (add-one k) (both_true p.so_far e) }

    pub passed_next : {b : Bool} → k < count → b ≡ test k → not b ≡ false → Passed test count (k + 1)
    passed_next h e t = passed_by h (sym e ∙ not-false _ t)

    pub passed_fails : {b : Bool} → k < count → b ≡ test k → not b ≡ true → false ≡ all test count
    passed_fails h e t = sym (all_fails test count k h (sym e ∙ not-true _ t))

    pub passed_all : count ≤ k → true ≡ all test count
    passed_all h = let e : count ≡ k = omega (arith, p.inside) in rw e (sym p.so_far)
