-- Masks and labels lose their last symbol together: the mask of n + 1 symbols is that of the first n, with the bit of the last one behind
-- it (`differing-last`). So by the number of symbols, a mask marks what differs and is not erased (`marks`), and the ones that the machine
-- counts are the symbols that it marks (`ones-marked`). Each symbol costs 1 exactly if the mask marks it, so the number of ones is the
-- distance.
use mathlib.Core.Path.{◌≡◌, refl, sym, ◌∙◌, ap, ap₂}
use mathlib.Core.Bool.{Bool, true, false, not, ◌&&◌}
use Prim.Native.Nat.{ℕ, zero, suc, ◌+◌, ◌-◌, ◌*◌, ◌/◌, ◌%◌, ◌^◌, ◌<◌, ◌≤◌}
use native.Mathlib.Omega.{arith}
use native.Mathlib.Decide.{ℕ_discrete}
use native.Mathlib.Nat.{zero-add, add_comm, not-suc-le-zero, sub_self, pow-suc, mul_assoc, mul_comm, mul-one}
use lib.Arith.{digits_div, digits_mod}
use lib.Count.{ones, ones_step}
use lib.Dec.{eqb}
use borrow.Author.Tests.{eq-eqb, ne_eqb}
use Rattle.trellis.specs.Lists.{one_if, sum}
use Rattle.trellis.specs.Label.{symbol}
use Rattle.trellis.specs.Comparing.{marked_at, marked_in, erasure_cost, cost_over, symbol_cost_by, distance_by, label_distance}
use Rattle.trellis.specs.Comparing.{differs_at, differing, Compared}
use Rattle.trellis.proofs.Bools.{one_if_le}
use Rattle.trellis.proofs.Lists.{sum_eq, sum_mul, sum_last}
use Rattle.trellis.proofs.Digits.{digit_last, digit_drop}

-- ---- the last symbol dropped

mark_last : (n mask : ℕ) → marked_at (suc n) n mask ≡ eqb (mask % 2) 1
unfolding marked_at
mark_last n mask = ap (λ d. eqb d 1) (digit_last 2 n mask)

mark_drop : (n t mask : ℕ) → t < n → marked_at (suc n) t mask ≡ marked_at n t (mask / 2)
unfolding marked_at
mark_drop n t mask h = ap (λ d. eqb d 1) (digit_drop 2 n t mask h)

marked_last : (n mask : ℕ) → marked_in (suc n) mask ≡ marked_in n (mask / 2) + one_if (eqb (mask % 2) 1)
unfolding marked_in
marked_last n mask =
    sum_last (λ t. one_if (marked_at (suc n) t mask)) 0 n
    ∙ ap₂ (λ a b. a + b)
    (sum_eq (λ t. one_if (marked_at (suc n) t mask)) (λ t. one_if (marked_at n t (mask / 2))) 0 n
    (λ t l h. ap one_if (mark_drop n t mask (omega arith))))
    (ap (λ t. one_if (marked_at (suc n) t mask)) (zero-add n) ∙ ap one_if (mark_last n mask))

module _ (n x erased y : ℕ) where
  -- whether the last symbol differs and is not erased
  abbrev pub last_differs : Bool
  last_differs = not (eqb (erased % 2) 1) && not (eqb (y % 4) (x % 4))

  differs_last : differs_at (suc n) x erased y n ≡ last_differs
  unfolding differs_at symbol
  differs_last = rw (mark_last n erased, digit_last 4 n x, digit_last 4 n y)

  differs_drop : (t : ℕ) → t < n → differs_at (suc n) x erased y t ≡ differs_at n (x / 4) (erased / 2) (y / 4) t
  unfolding differs_at symbol
  differs_drop t h = rw (mark_drop n t erased h, digit_drop 4 n t x h, digit_drop 4 n t y h)

  pub differing_last : differing (suc n) x erased y ≡ differing n (x / 4) (erased / 2) (y / 4) * 2 + one_if last_differs
  unfolding differing
  differing_last =
      sum_last (term (suc n) x erased y) 0 n
      ∙ ap₂ (λ a b. a + b)
      (sum_eq (term (suc n) x erased y) (λ t. 2 * term n (x / 4) (erased / 2) (y / 4) t) 0 n (λ t l h. twice t (omega arith))
      ∙ sum_mul 2 (term n (x / 4) (erased / 2) (y / 4)) 0 n ∙ mul_comm 2 (sum (term n (x / 4) (erased / 2) (y / 4)) 0 n))
      (ap (term (suc n) x erased y) (zero-add n) ∙ last)
    where
      term : ℕ → ℕ → ℕ → ℕ → ℕ → ℕ
      term n x erased y t = one_if (differs_at n x erased y t) * 2 ^ (n - suc t)

      twice : (t : ℕ) → t < n → term (suc n) x erased y t ≡ 2 * term n (x / 4) (erased / 2) (y / 4) t
      twice t h =
          let e : suc n - suc t ≡ suc (n - suc t) = omega arith in
          let b = one_if (differs_at n (x / 4) (erased / 2) (y / 4) t) in
          ap₂ (λ d p. one_if d * 2 ^ p) (differs_drop t h) e ∙ ap (λ p. b * p) (pow-suc 2 (n - suc t))
          ∙ sym (mul_assoc b (2 ^ (n - suc t)) 2) ∙ mul_comm (b * 2 ^ (n - suc t)) 2

      last : term (suc n) x erased y n ≡ one_if last_differs
      last = ap₂ (λ d p. one_if d * 2 ^ p) differs_last (sub_self (suc n)) ∙ mul-one (one_if last_differs)

  abbrev without_last : ℕ
  without_last = differing n (x / 4) (erased / 2) (y / 4)

  one_bit : one_if last_differs < 2
  one_bit = omega (arith, one_if_le last_differs)

  differing_half : differing (suc n) x erased y / 2 ≡ without_last
  differing_half = ap (λ m. m / 2) differing_last ∙ digits_div without_last one_bit

  differing_bit : differing (suc n) x erased y % 2 ≡ one_if last_differs
  differing_bit = ap (λ m. m % 2) differing_last ∙ digits_mod without_last one_bit

-- ---- what the mask marks

one_if_is : (b : Bool) → eqb (one_if b) 1 ≡ b
one_if_is true = refl
one_if_is false = refl

marks : (n x erased y t : ℕ) → t < n → marked_at n t (differing n x erased y) ≡ differs_at n x erased y t
marks zero x erased y t h = absurd (not-suc-le-zero h)
marks (suc n) x erased y t h = go (ℕ_discrete t n) (marks n (x / 4) (erased / 2) (y / 4) t)
  where
    m : ℕ
    m = differing (suc n) x erased y

    go : Dec (t ≡ n) → (t < n → marked_at n t (without_last n x erased y) ≡ differs_at n (x / 4) (erased / 2) (y / 4) t)
        → marked_at (suc n) t m ≡ differs_at (suc n) x erased y t
    go (yes e) before =
        ap (λ u. marked_at (suc n) u m) e ∙ mark_last n m ∙ ap (λ b. eqb b 1) (differing_bit n x erased y) ∙ one_if_is _
        ∙ sym (differs_last n x erased y) ∙ ap (differs_at (suc n) x erased y) (sym e)
    go (no e) before =
        let l : t < n = omega arith in
        mark_drop n t m l ∙ ap (marked_at n t) (differing_half n x erased y) ∙ before l
        ∙ sym (differs_drop n x erased y t l)

-- ---- the number of ones

pub differing_short : (n x erased y : ℕ) → differing n x erased y < 2 ^ n
unfolding differing sum
differing_short zero x erased y = omega arith
differing_short (suc n) x erased y =
    omega (arith, differing_last n x erased y, one_bit n x erased y, differing_short n (x / 4) (erased / 2) (y / 4), pow-suc 2 n)

pub bit_is : (mask : ℕ) → mask % 2 ≡ one_if (eqb (mask % 2) 1)
bit_is mask = go (ℕ_discrete (mask % 2) 1)
  where
    go : Dec (mask % 2 ≡ 1) → mask % 2 ≡ one_if (eqb (mask % 2) 1)
    go (yes e) = e ∙ sym (ap one_if (eq-eqb (mask % 2) 1 e))
    go (no e) = let z : mask % 2 ≡ 0 = omega arith in z ∙ sym (ap one_if (ne_eqb (mask % 2) 1 e))

pub ones_marked : (n mask : ℕ) → mask < 2 ^ n → ones mask ≡ marked_in n mask
unfolding marked_in sum ones
ones_marked zero mask h = let e : mask ≡ 0 = omega arith in ap ones e
ones_marked (suc n) mask h =
    ones_step mask ∙ ap₂ (λ a b. a + b) (bit_is mask) (ones_marked n (mask / 2) (omega (arith, pow-suc 2 n)))
    ∙ add_comm (one_if (eqb (mask % 2) 1)) (marked_in n (mask / 2)) ∙ sym (marked_last n mask)

-- a symbol costs 1 exactly if it differs and is not erased
pub cost_is : (erased : Bool) (r a : ℕ) → cost_over erasure_cost erased r a ≡ one_if (not erased && not (eqb a r))
cost_is true r a = refl
cost_is false r a = refl

pub distance_is_lem : (n x erased y : ℕ) → label_distance n x erased y ≡ marked_in n (differing n x erased y)
unfolding distance_by symbol_cost_by marked_in differs_at
distance_is_lem n x erased y =
    sum_eq (λ t. cost_over erasure_cost (marked_at n t erased) (symbol n t x) (symbol n t y))
    (λ t. one_if (marked_at n t (differing n x erased y))) 0 n
    (λ t l h.
    cost_is (marked_at n t erased) (symbol n t x) (symbol n t y) ∙ ap one_if (sym (marks n x erased y t (omega arith))))

-- no more symbols differ than there are
marked_most : (n mask : ℕ) → marked_in n mask ≤ n
unfolding marked_in sum
marked_most zero mask = omega arith
marked_most (suc n) mask = omega (arith, marked_last n mask, marked_most n (mask / 2), one_if_le (eqb (mask % 2) 1))

pub distance_most : (n x erased y : ℕ) → label_distance n x erased y ≤ n
distance_most n x erased y = rw (distance_is_lem n x erased y) (marked_most n (differing n x erased y))

pub compares : (n x erased y : ℕ) → Compared n x erased y (differing n x erased y) (label_distance n x erased y)
compares n x erased y =
    record { mask_is = refl; marks = marks n x erased y; distance_is = refl; ones = sym (distance_is_lem n x erased y) }
