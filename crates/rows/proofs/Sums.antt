-- Laws of sums of rows. The sum of a sum of choices is the sum of the sums; so sums are closed under addition, and a function that keeps
-- addition can be taken row by row. Each follows along the rows.
use mathlib.Core.Path.{◌≡◌, refl, sym, ap, ap₂, subst, ◌∙◌}
use mathlib.Core.List.Memᴰ
use mathlib.Core.List.{List, [], ◌∷◌, ◌++◌, map}
use Prim.Native.Nat.{ℕ, zero, suc, ◌+◌, ◌*◌, ◌/◌, ◌%◌, ◌^◌, ◌<◌}
use native.Mathlib.Omega.{arith}
use native.Mathlib.Numerals.{add-one}
use native.Mathlib.Nat.{mod-lt, div-one, div-div-eq-div-mul, div-eq_of_lt, mul_comm, mul-one, pow-suc, add-zero, zero-mul, one-mul}
use native.Mathlib.Nat.{mul_assoc, add-mul, div-add-mod', mul-mod_left, mul-div_cancel}
use lib.Arith.{digits_div, digits_mod}
use lib.Pow.{pow_pos, mod-pow-add}
use lib.Bits.{differ, xor_comm, xor_self, xor_zero_r, xor_lt, xor_shifted, shifted_half, shifted_even}
use lib.ListN.{length, get_or}
use Rattle.trellis.specs.Lists.{◌∈◌, run}
use Rattle.rows.specs.Sums.{◌⊕◌, chosen, sum_of, choices, IsSum}
use Rattle.rows.specs.Inner.Reduced.{no_rows}
use Rattle.rows.proofs.Xor.{odd_lt, xor_half, xor_odd, xor_four, xor_assoc, xor_twice}

-- ---- what is chosen

pub chosen_differ : (a b r : ℕ) → a < 2 → b < 2 → chosen (differ a b) r ≡ chosen a r ⊕ chosen b r
unfolding chosen
chosen_differ zero b r h k = refl
chosen_differ (suc zero) zero r h k = sym (xor_zero_r r)
chosen_differ (suc zero) (suc zero) r h k = sym (xor_self r)
chosen_differ (suc zero) (suc (suc b)) r h k = absurd (omega arith)
chosen_differ (suc (suc a)) b r h k = absurd (omega arith)

chosen_lt : (b w r : ℕ) → r < 2 ^ w → chosen b r < 2 ^ w
unfolding chosen
chosen_lt zero w r h = pow_pos w
chosen_lt (suc b) w r h = h

pub chosen_adds : (b x y : ℕ) → chosen b (x ⊕ y) ≡ chosen b x ⊕ chosen b y
unfolding chosen
chosen_adds zero x y = refl
chosen_adds (suc b) x y = refl

pub chosen_none : (b : ℕ) → chosen b 0 ≡ 0
unfolding chosen
chosen_none zero = refl
chosen_none (suc b) = refl

-- ---- functions that keep addition

pub record Additive (f : ℕ → ℕ) : Type 0 where
  pub adds : (x y : ℕ) → f (x ⊕ y) ≡ f x ⊕ f y

pub additive_zero : {f : ℕ → ℕ} → Additive f → f 0 ≡ 0
additive_zero {f} A = sym (xor_twice (f 0) (f 0)) ∙ ap (λ k. f 0 ⊕ k) (sym (A.adds 0 0)) ∙ xor_self (f 0)

pub additive_chosen : {f : ℕ → ℕ} → Additive f → (b r : ℕ) → f (chosen b r) ≡ chosen b (f r)
unfolding chosen
additive_chosen A zero r = additive_zero A
additive_chosen A (suc b) r = refl

-- ---- sums

pub sum_nil : (i : ℕ) → sum_of [] i ≡ 0
unfolding sum_of
sum_nil i = refl

sum_adds : (rows : List ℕ) (i j : ℕ) → sum_of rows (i ⊕ j) ≡ sum_of rows i ⊕ sum_of rows j
unfolding sum_of
sum_adds [] i j = refl
sum_adds (r ∷ rows) i j =
    ap₂ (λ a b. chosen a r ⊕ sum_of rows b) (xor_odd i j) (xor_half i j)
    ∙ ap₂ (λ a b. a ⊕ b) (chosen_differ (i % 2) (j % 2) r (odd_lt i) (odd_lt j)) (sum_adds rows (i / 2) (j / 2))
    ∙ xor_four (chosen (i % 2) r) (chosen (j % 2) r) (sum_of rows (i / 2)) (sum_of rows (j / 2))

pub sum_xor : (rows : List ℕ) → Additive (sum_of rows)
sum_xor rows = record { adds = sum_adds rows }

pub sum_map : {f : ℕ → ℕ} → Additive f → (rows : List ℕ) (i : ℕ) → sum_of (map f rows) i ≡ f (sum_of rows i)
unfolding sum_of
sum_map A [] i = sym (additive_zero A)
sum_map A (r ∷ rows) i =
    ap₂ (λ a b. a ⊕ b) (sym (additive_chosen A (i % 2) r)) (sum_map A rows (i / 2))
    ∙ sym (A.adds (chosen (i % 2) r) (sum_of rows (i / 2)))

pub shift_on : (i k : ℕ) → i / 2 / 2 ^ k ≡ i / 2 ^ suc k
shift_on i k = div-div-eq-div-mul i 2 (2 ^ k) ∙ ap (λ m. i / m) (mul_comm 2 (2 ^ k) ∙ sym (pow-suc 2 k))

-- rows behind others are chosen by the bits behind
pub sum_append : (rows more : List ℕ) (i : ℕ) → sum_of (rows ++ more) i ≡ sum_of rows i ⊕ sum_of more (i / 2 ^ length rows)
unfolding sum_of
sum_append [] more i = ap (sum_of more) (sym (div-one i))
sum_append (r ∷ rows) more i =
    ap (λ k. chosen (i % 2) r ⊕ k) (sum_append rows more (i / 2) ∙ ap (λ k. sum_of rows (i / 2) ⊕ sum_of more k) (shift_on i (length rows)))
    ∙ sym (xor_assoc (chosen (i % 2) r) (sum_of rows (i / 2)) (sum_of more (i / 2 ^ suc (length rows))))

pub mod_suc : (i k : ℕ) → i % 2 ^ suc k ≡ (i / 2 % 2 ^ k) * 2 + i % 2
mod_suc i k = ap (λ m. i % 2 ^ m) (sym (add-one k)) ∙ mod-pow-add i k 1

-- only the bits that belong to a row count
pub sum_low : (rows : List ℕ) (i : ℕ) → sum_of rows (i % choices rows) ≡ sum_of rows i
unfolding sum_of
sum_low [] i = refl
sum_low (r ∷ rows) i =
    let e = mod_suc i (length rows) in
    ap₂ (λ a b. chosen a r ⊕ sum_of rows b)
    (ap (λ k. k % 2) e ∙ digits_mod (i / 2 % 2 ^ length rows) (odd_lt i))
    (ap (λ k. k / 2) e ∙ digits_div (i / 2 % 2 ^ length rows) (odd_lt i))
    ∙ ap (λ k. chosen (i % 2) r ⊕ k) (sum_low rows (i / 2))

pub sum_beyond : (rows : List ℕ) (c : ℕ) → sum_of rows (c * choices rows) ≡ 0
unfolding sum_of chosen
sum_beyond [] c = refl
sum_beyond (r ∷ rows) c =
    ap₂ (λ a b. chosen a r ⊕ sum_of rows b) (shifted_even c (length rows)) (shifted_half c (length rows)) ∙ sum_beyond rows c

pub sum_lt : (w : ℕ) (rows : List ℕ) → ((r : ℕ) → r ∈ rows → r < 2 ^ w) → (i : ℕ) → sum_of rows i < 2 ^ w
unfolding sum_of
sum_lt w [] h i = pow_pos w
sum_lt w (r ∷ rows) h i = xor_lt w (chosen (i % 2) r) (sum_of rows (i / 2))
    (chosen_lt (i % 2) w r (h r (Memᴰ.head refl))) (sum_lt w rows (λ y m. h y (Memᴰ.tail m)) (i / 2))

-- ---- being a sum

pub sum_is : (rows : List ℕ) (i : ℕ) → IsSum rows (sum_of rows i)
sum_is rows i = record { choice = i % choices rows; inside = mod-lt i (pow_pos (length rows)); is = sym (sum_low rows i) }

module _ {rows : List ℕ} where
  pub sum_cast : {x y : ℕ} → x ≡ y → IsSum rows x → IsSum rows y
  sum_cast e S = subst (λ z. IsSum rows z) e S

  pub sum_none : IsSum rows 0
  sum_none = sum_cast (additive_zero (sum_xor rows)) (sum_is rows 0)

  pub sum_add : {x y : ℕ} → IsSum rows x → IsSum rows y → IsSum rows (x ⊕ y)
  sum_add S U = sum_cast ((sum_xor rows).adds S.choice U.choice ∙ ap₂ (λ a b. a ⊕ b) (sym S.is) (sym U.is))
      (sum_is rows (S.choice ⊕ U.choice))

  pub sum_chosen : (b : ℕ) {x : ℕ} → IsSum rows x → IsSum rows (chosen b x)
  unfolding chosen
  sum_chosen zero S = sum_none
  sum_chosen (suc b) S = S

-- a row in front
pub sum_cons : (r : ℕ) {rows : List ℕ} (b : ℕ) {x : ℕ} → b < 2 → IsSum rows x → IsSum (r ∷ rows) (chosen b r ⊕ x)
unfolding sum_of
sum_cons r {rows} b {x} h S = record {
  choice = S.choice * 2 + b;
  inside = omega (arith, S.inside, pow-suc 2 (length rows));
  is = sym (ap₂ (λ a c. chosen a r ⊕ sum_of rows c) (digits_mod S.choice h) (digits_div S.choice h)
      ∙ ap (λ k. chosen b r ⊕ k) (sym S.is));
}

-- row m alone
pub sum_power : (rows : List ℕ) (m : ℕ) → sum_of rows (2 ^ m) ≡ get_or rows m 0
unfolding sum_of chosen
sum_power [] m = refl
sum_power (r ∷ rows) zero = ap (λ k. r ⊕ k) (additive_zero (sum_xor rows)) ∙ xor_zero_r r
sum_power (r ∷ rows) (suc m) =
    ap₂ (λ a b. chosen a r ⊕ sum_of rows b) (ap (λ k. k % 2) (pow-suc 2 m) ∙ mul-mod_left (2 ^ m) 2)
    (ap (λ k. k / 2) (pow-suc 2 m) ∙ mul-div_cancel (2 ^ m) (omega arith))
    ∙ sum_power rows m

-- ---- one row more

module _ (rows : List ℕ) (r : ℕ) where
  -- a sum of all rows, taken apart
  pub sum_last : (i : ℕ) → sum_of (rows ++ (r ∷ [])) i ≡ sum_of rows i ⊕ chosen (i / choices rows % 2) r
  unfolding sum_of
  sum_last i = sum_append rows (r ∷ []) i ∙ ap (λ k. sum_of rows i ⊕ k) (xor_zero_r (chosen (i / choices rows % 2) r))

  pub sum_last_low : (i : ℕ) → i < choices rows → sum_of (rows ++ (r ∷ [])) i ≡ sum_of rows i
  unfolding chosen
  sum_last_low i h = sum_last i ∙ ap (λ k. sum_of rows i ⊕ chosen (k % 2) r) (div-eq_of_lt h) ∙ xor_zero_r (sum_of rows i)

  pub sum_last_high : (j : ℕ) → j < choices rows → sum_of (rows ++ (r ∷ [])) (choices rows + j) ≡ r ⊕ sum_of rows j
  unfolding chosen
  sum_last_high j h =
      let e : choices rows + j ≡ 1 * choices rows + j = ap (λ k. k + j) (sym (one-mul (choices rows))) in
      sum_last (choices rows + j)
      ∙ ap₂ (λ a b. a ⊕ chosen (b % 2) r)
      (sym (sum_low rows (choices rows + j)) ∙ ap (sum_of rows) (ap (λ k. k % choices rows) e ∙ digits_mod 1 h))
      (ap (λ k. k / choices rows) e ∙ digits_div 1 h)
      ∙ xor_comm (sum_of rows j) r

  pub sum_old : {x : ℕ} → IsSum rows x → IsSum (rows ++ (r ∷ [])) x
  unfolding chosen
  sum_old S = sum_cast
      (sum_last S.choice ∙ ap (λ k. sum_of rows S.choice ⊕ chosen (k % 2) r) (div-eq_of_lt S.inside)
      ∙ xor_zero_r (sum_of rows S.choice) ∙ sym S.is)
      (sum_is (rows ++ (r ∷ [])) S.choice)

  pub sum_new : IsSum (rows ++ (r ∷ [])) r
  unfolding chosen
  sum_new = sum_cast
      (sum_last (1 * choices rows)
      ∙ ap₂ (λ a b. a ⊕ chosen (b % 2) r) (sum_beyond rows 1)
      (ap (λ k. k / choices rows) (sym (add-zero (1 * choices rows))) ∙ digits_div 1 (pow_pos (length rows))))
      (sum_is (rows ++ (r ∷ [])) (1 * choices rows))

-- ---- each number is the sum of its bits

chosen_times : (b P : ℕ) → b < 2 → chosen b P ≡ b * P
unfolding chosen
chosen_times zero P h = sym (zero-mul P)
chosen_times (suc zero) P h = sym (one-mul P)
chosen_times (suc (suc b)) P h = absurd (omega arith)

-- the lowest bit, and the others
pub low_bit : (at x : ℕ) → chosen (x % 2) (2 ^ at) ⊕ (x / 2 * 2 ^ suc at) ≡ x * 2 ^ at
low_bit at x =
    xor_comm (chosen (x % 2) (2 ^ at)) (x / 2 * 2 ^ suc at)
    ∙ xor_shifted (x / 2) (suc at) (chosen (x % 2) (2 ^ at)) (chosen_lt (x % 2) (suc at) (2 ^ at) (omega (arith, pow-suc 2 at, pow_pos at)))
    ∙ ap₂ (λ a b. a + b) (ap (λ k. x / 2 * k) (pow-suc 2 at ∙ mul_comm (2 ^ at) 2) ∙ sym (mul_assoc (x / 2) 2 (2 ^ at)))
    (chosen_times (x % 2) (2 ^ at) (odd_lt x))
    ∙ sym (add-mul (x / 2 * 2) (x % 2) (2 ^ at))
    ∙ ap (λ k. k * 2 ^ at) (div-add-mod' x 2)

powers : (at count x : ℕ) → x < 2 ^ count → sum_of (run (λ m. 2 ^ m) at count) x ≡ x * 2 ^ at
unfolding sum_of run
powers at zero x h = let e : x ≡ 0 = omega arith in sym (ap (λ k. k * 2 ^ at) e ∙ zero-mul (2 ^ at))
powers at (suc count) x h =
    ap (λ k. chosen (x % 2) (2 ^ at) ⊕ k) (powers (suc at) count (x / 2) (omega (arith, pow-suc 2 count))) ∙ low_bit at x

pub sum_powers : (N x : ℕ) → x < 2 ^ N → sum_of (no_rows N) x ≡ x
unfolding no_rows
sum_powers N x h = powers 0 N x h ∙ mul-one x
