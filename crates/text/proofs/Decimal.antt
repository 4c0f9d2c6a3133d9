-- `decimal` gives the decimal digits of every number: they stand for it, with no 0 in front. A number below ten is its own digit; of any
-- other the last digit is what is left over by ten, and those in front are the digits of the tenth part, which is not 0.
use mathlib.Core.Path.{◌≡◌, refl, sym, ap, ap₂, subst, ◌∙◌}
use mathlib.Core.Bool.{Bool}
use mathlib.Core.Logic.{◌⊎◌, inl, inr}
use mathlib.Core.List.Memᴰ
use mathlib.Core.List.{List, [], ◌∷◌, ◌++◌, head-eq_of_cons-eq, tail-eq_of_cons-eq}
use Prim.Native.Nat.{ℕ, zero, suc, ◌+◌, ◌-◌, ◌*◌, ◌/◌, ◌%◌, ◌^◌, ◌<◌, ◌≤◌}
use native.Mathlib.Omega.{arith}
use native.Mathlib.Nat.{pow-suc, pow-le-pow_right, div-div-eq-div-mul, div-one}
use native.Mathlib.Decide.{dec_lt}
use lib.Dec.{ltb, ltb→lt, lt→ltb}
use lib.ListN.{length}
use borrow.Author.Tests.{ltb-false}
use Rattle.trellis.specs.Lists.{◌∈◌, run, each}
use Rattle.trellis.proofs.Bools.{is_false}
use Rattle.trellis.proofs.Lists.{First, first_ok, first_is, length_run, each_same, run_snoc}
use Rattle.text.specs.Line.{digit, higher_digits, decimal}

-- ---- what makes bytes the decimal digits of a number, whatever way they were found

-- the number that digits stand for, the highest first, behind digits that stand for v
unfoldable pub stands_for : ℕ → List ℕ → ℕ
stands_for v [] = v
stands_for v (d ∷ ds) = stands_for (10 * v + (d - 48)) ds

pub record IsDecimal (x : ℕ) (ds : List ℕ) : Type 0 where
  pub stands : stands_for 0 ds ≡ x
  pub are_digits : (d : ℕ) → d ∈ ds → (48 ≤ d) × (d ≤ 57)
  -- a 0 in front stands alone
  pub no_zero : (rest : List ℕ) → ds ≡ 48 ∷ rest → rest ≡ []

-- ---- how many digits there are

pow_step : (k : ℕ) → 10 ^ suc k ≡ 10 * 10 ^ k
pow_step k = omega (arith, pow-suc 10 k)

self_below : (x : ℕ) → x < 10 ^ x
self_below zero = omega arith
self_below (suc x) = omega (arith, self_below x, pow_step x)

-- k digits stand in front of the last digit of x
record Leads (x k : ℕ) : Type 0 where
  below : x < 10 ^ suc k
  reaches : 0 < k → 10 ^ k ≤ x

abbrev Shorter : ℕ → ℕ → Bool
Shorter x k = ltb x (10 ^ suc k)

leads_ok : (x : ℕ) → Leads x (higher_digits x)
unfolding higher_digits
leads_ok x = go (higher_digits x) (first_ok (Shorter x) x)
  where
    lower : (k : ℕ) → First (Shorter x) x k → 0 < k → 10 ^ k ≤ x
    lower zero F h = absurd (omega arith)
    lower (suc k) F h = ltb-false x (10 ^ suc k) (is_false _ (F.miss k (omega arith)))

    upper : (k : ℕ) → First (Shorter x) x k → Dec (k < x) → x < 10 ^ suc k
    upper k F (yes h) = ltb→lt x (10 ^ suc k) (F.hit h)
    upper k F (no h) = omega (arith, F.most, self_below k, pow_step k)

    go : (k : ℕ) → First (Shorter x) x k → Leads x k
    go k F = record { below = upper k F (dec_lt k x); reaches = lower k F }

leads_is : {x k : ℕ} → Leads x k → higher_digits x ≡ k
unfolding higher_digits
leads_is {x} {k} L = first_is (Shorter x) x k (record {
  most = most k L.reaches;
  hit = λ h. lt→ltb x (10 ^ suc k) L.below;
  miss = λ j h t.
      let p : 10 ^ suc j ≤ 10 ^ k = pow-le-pow_right (let z : 0 < 10 = omega arith in z) h in
      omega (arith, ltb→lt x (10 ^ suc j) t, L.reaches (omega arith));
})
  where
    most : (k : ℕ) → (0 < k → 10 ^ k ≤ x) → k ≤ x
    most zero r = omega arith
    most (suc k) r = omega (arith, self_below (suc k), r (omega arith))

leads_one : (x : ℕ) → x < 10 → higher_digits x ≡ 0
leads_one x h = leads_is (record { below = omega (arith, pow-suc 10 0); reaches = λ z. absurd (omega arith) })

leads_more : (x : ℕ) → 10 ≤ x → higher_digits x ≡ suc (higher_digits (x / 10))
leads_more x h = leads_is (go (higher_digits (x / 10)) (leads_ok (x / 10)))
  where
    reaches : (k : ℕ) → Leads (x / 10) k → 10 ^ suc k ≤ x
    reaches zero L = omega (arith, pow-suc 10 0)
    reaches (suc k) L = omega (arith, pow_step (suc k), L.reaches (omega arith))

    go : (k : ℕ) → Leads (x / 10) k → Leads x (suc k)
    go k L = record { below = omega (arith, pow_step (suc k), L.below); reaches = λ z. reaches k L }

-- below 10^(k+1) there are at most k + 1 digits
pub decimal_few : (x k : ℕ) → x < 10 ^ suc k → length (decimal x) ≤ suc k
unfolding decimal
decimal_few x k h =
    omega (arith, length_run (λ i. digit (x / 10 ^ (higher_digits x - i) % 10)) 0 (suc (higher_digits x)), few (higher_digits x) (leads_ok x))
  where
    few : (m : ℕ) → Leads x m → m ≤ k
    few m L = go (dec_lt k m)
      where
        go : Dec (k < m) → m ≤ k
        go (yes g) =
            let p : 10 ^ suc k ≤ 10 ^ m = pow-le-pow_right (let z : 0 < 10 = omega arith in z) g in
            absurd (omega (arith, L.reaches (omega arith)))
        go (no g) = omega arith

-- ---- the digits of a number by those of its tenth part

pub decimal_one : (x : ℕ) → x < 10 → decimal x ≡ digit (x % 10) ∷ []
unfolding decimal run
decimal_one x h = ap (λ m. each (λ i. digit (x / 10 ^ (m - i) % 10)) (suc m)) (leads_one x h) ∙ ap (λ y. digit (y % 10) ∷ []) (div-one x)

-- of k + 1 digits in front of the last one, each is a digit of the tenth part
front_digit : (x k i : ℕ) → i < suc k → digit (x / 10 ^ (suc k - i) % 10) ≡ digit (x / 10 / 10 ^ (k - i) % 10)
front_digit x k i g =
    let e : suc k - i ≡ suc (k - i) = omega arith in
    ap (λ y. digit (y % 10)) (ap (λ m. x / 10 ^ m) e ∙ ap (λ p. x / p) (pow_step (k - i)) ∙ sym (div-div-eq-div-mul x 10 (10 ^ (k - i))))

last_digit : (x k : ℕ) → digit (x / 10 ^ (suc k - (0 + suc k)) % 10) ≡ digit (x % 10)
last_digit x k =
    let e : suc k - (0 + suc k) ≡ 0 = omega arith in
    ap (λ m. digit (x / 10 ^ m % 10)) e ∙ ap (λ y. digit (y % 10)) (div-one x)

pub decimal_more : (x : ℕ) → 10 ≤ x → decimal x ≡ decimal (x / 10) ++ (digit (x % 10) ∷ [])
unfolding decimal
decimal_more x h =
    let k = higher_digits (x / 10) in
    ap (λ m. each (λ i. digit (x / 10 ^ (m - i) % 10)) (suc m)) (leads_more x h)
    ∙ run_snoc (λ i. digit (x / 10 ^ (suc k - i) % 10)) 0 (suc k)
    ∙ ap₂ (λ ds d. ds ++ (d ∷ [])) (each_same _ _ (suc k) (suc k) refl (front_digit x k)) (last_digit x k)

-- ---- they stand for the number

stands_last : (ds : List ℕ) (v d : ℕ) → stands_for v (ds ++ (d ∷ [])) ≡ 10 * stands_for v ds + (d - 48)
unfolding stands_for
stands_last [] v d = refl
stands_last (e ∷ ds) v d = stands_last ds (10 * v + (e - 48)) d

one_digit : (x d : ℕ) → d ∈ (digit (x % 10) ∷ []) → (48 ≤ d) × (d ≤ 57)
one_digit x d m = let e : d ≡ 48 + x % 10 = Memᴰ.eq_of_singleton m in (omega arith, omega arith)

alone : (x : ℕ) → x < 10 → IsDecimal x (digit (x % 10) ∷ [])
unfolding stands_for
alone x h = record {
  stands = omega arith;
  are_digits = one_digit x;
  no_zero = λ rest e. sym (tail-eq_of_cons-eq e);
}

-- were the first of them 0 it would be the only one, and the tenth part 0
first_not_zero : (y : ℕ) (es more rest : List ℕ) → 0 < y → stands_for 0 es ≡ y → ((r : List ℕ) → es ≡ 48 ∷ r → r ≡ [])
    → es ++ more ≡ 48 ∷ rest → ⊥
unfolding stands_for
first_not_zero y [] more rest h s z e = omega arith
first_not_zero y (d ∷ es) more rest h s z e =
    let d_is : d ≡ 48 = head-eq_of_cons-eq e in
    let none : es ≡ [] = z es (ap (λ c. c ∷ es) d_is) in
    let sum : 10 * 0 + (d - 48) ≡ y = subst (λ r. stands_for (10 * 0 + (d - 48)) r ≡ y) none s in
    omega arith

-- digits of the tenth part, which is not 0, and the last digit behind them
behind : (x : ℕ) (ds : List ℕ) → 10 ≤ x → IsDecimal (x / 10) ds → IsDecimal x (ds ++ (digit (x % 10) ∷ []))
behind x ds h D = record {
  stands = stands_last ds 0 (digit (x % 10)) ∙ omega (arith, D.stands);
  are_digits = λ d m. either (D.are_digits d) (one_digit x d) (Memᴰ.append_cases ds m);
  no_zero = λ rest e. absurd (first_not_zero (x / 10) ds (digit (x % 10) ∷ []) rest (omega arith) D.stands D.no_zero e);
}
  where
    either : {A B C : Type 0} → (A → C) → (B → C) → A ⊎ B → C
    either f g (inl a) = f a
    either f g (inr b) = g b

-- by induction on a number that x does not pass
up_to : (m x : ℕ) → x ≤ m → IsDecimal x (decimal x)
up_to zero x h = let s : x < 10 = omega arith in subst (IsDecimal x) (sym (decimal_one x s)) (alone x s)
up_to (suc m) x h = go (up_to m (x / 10)) (dec_lt x 10)
  where
    go : (x / 10 ≤ m → IsDecimal (x / 10) (decimal (x / 10))) → Dec (x < 10) → IsDecimal x (decimal x)
    go r (yes s) = subst (IsDecimal x) (sym (decimal_one x s)) (alone x s)
    go r (no s) = subst (IsDecimal x) (sym (decimal_more x (omega arith))) (behind x (decimal (x / 10)) (omega arith) (r (omega arith)))

pub decimal_ok : (x : ℕ) → IsDecimal x (decimal x)
decimal_ok x = up_to x x (omega arith)
