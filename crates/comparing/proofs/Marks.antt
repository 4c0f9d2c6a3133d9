-- `comparing::compare` takes the erased symbols away from all that differ: bit by bit, that is the mask (`unerased`). It looks at eight
-- symbols; where both labels are used up, further symbols are zeros and do not differ, so the mask is that of n symbols as well (`fewer`).
use mathlib.Core.Path.{◌≡◌, refl, sym, ◌∙◌, ap, ap₂, subst}
use mathlib.Core.Bool.{Bool, true, false, not, ◌&&◌}
use Prim.Native.Nat.{ℕ, zero, suc, ◌+◌, ◌-◌, ◌*◌, ◌/◌, ◌%◌, ◌^◌, ◌<◌, ◌≤◌, min}
use native.Mathlib.Omega.{arith}
use native.Mathlib.Decide.{ℕ_discrete}
use native.Mathlib.Nat.{not-suc-le-zero, pow-suc, pow-succ', div-one, div-div-eq-div-mul}
use lib.Arith.{digits_div, digits_mod}
use lib.Bits.{bit_and, and_step, and_zero_l}
use lib.Count.{ones}
use lib.Dec.{eqb}
use borrow.Author.Tests.{eq-eqb}
use Rattle.trellis.specs.Lists.{one_if, sum}
use Rattle.trellis.specs.Label.{symbol}
use Rattle.trellis.specs.Comparing.{marked_at, marked_in, erasure_cost, cost_over, symbol_cost_by, symbol_cost, label_distance, differs_at}
use Rattle.trellis.specs.Comparing.{differing, Compared}
use Rattle.trellis.proofs.Bools.{one_if_le, and_false}
use Rattle.trellis.proofs.Comparing.{last_differs, differing_last, differing_short, ones_marked, cost_is, distance_is_lem, compares}
use Rattle.label.proofs.Digits.{drop_short}

-- ---- erased symbols taken away

-- one bit of a mask and one of what is not erased
last_kept : (erased : ℕ) (d : Bool) → min (one_if d) (1 - erased % 2) ≡ one_if (not (eqb (erased % 2) 1) && d)
last_kept erased d = go (ℕ_discrete (erased % 2) 1) d
  where
    go : Dec (erased % 2 ≡ 1) → (d : Bool) → min (one_if d) (1 - erased % 2) ≡ one_if (not (eqb (erased % 2) 1) && d)
    go (yes e) true = rw e
    go (yes e) false = rw e
    go (no e) true = let z : erased % 2 ≡ 0 = omega arith in rw z
    go (no e) false = let z : erased % 2 ≡ 0 = omega arith in rw z

-- the mask of what differs, without the erased symbols
unerased : (n x erased y : ℕ) → erased < 2 ^ n → bit_and (differing n x 0 y) (2 ^ n - 1 - erased) ≡ differing n x erased y
unfolding differing sum
unerased zero x erased y h = and_zero_l (2 ^ 0 - 1 - erased)
unerased (suc n) x erased y h =
    let differs = not (eqb (y % 4) (x % 4)) in
    let front = differing n (x / 4) 0 (y / 4) in
    let keep = 2 ^ suc n - 1 - erased in
    let short : one_if differs < 2 = omega (arith, one_if_le differs) in
    let below : erased / 2 < 2 ^ n = omega (arith, pow-suc 2 n) in
    let keep_half : keep / 2 ≡ 2 ^ n - 1 - erased / 2 = omega (arith, pow-suc 2 n) in
    let keep_bit : keep % 2 ≡ 1 - erased % 2 = omega (arith, pow-suc 2 n) in
    ap (λ d. bit_and d keep) (differing_last n x 0 y) ∙ and_step (front * 2 + one_if differs) keep
    ∙ ap₂ (λ a b. a * 2 + b) (ap₂ bit_and (digits_div front short) keep_half ∙ unerased n (x / 4) (erased / 2) (y / 4) below)
    (ap₂ min (digits_mod front short) keep_bit ∙ last_kept erased differs)
    ∙ sym (differing_last n x erased y)

-- ---- labels of fewer symbols

differing_same : (n x erased : ℕ) → differing n x erased x ≡ 0
unfolding differing sum
differing_same zero x erased = refl
differing_same (suc n) x erased =
    let alike : not (eqb (x % 4) (x % 4)) ≡ false = ap not (eq-eqb (x % 4) (x % 4) refl) in
    let b : one_if (last_differs n x erased x) ≡ 0 = ap one_if (and_false (not (eqb (erased % 2) 1)) _ alike) in
    omega (arith, differing_last n x erased x, differing_same n (x / 4) (erased / 2))

fewer : (n m x erased y : ℕ) → x < 4 ^ n → y < 4 ^ n → n ≤ m → differing m x erased y ≡ differing n x erased y
unfolding differing sum
fewer zero m x erased y a b h =
    let e : y ≡ x = omega arith in
    rw e (differing_same m x erased)
fewer (suc n) zero x erased y a b h = absurd (not-suc-le-zero h)
fewer (suc n) (suc m) x erased y a b h =
    differing_last m x erased y
    ∙ ap (λ front. front * 2 + one_if (last_differs m x erased y))
    (fewer n m (x / 4) (erased / 2) (y / 4) (drop_short n a) (drop_short n b) (omega arith))
    ∙ sym (differing_last n x erased y)

-- ---- what the code finds, for labels of n symbols

pub compared : (m x erased y : ℕ) {mask distance : ℕ} → mask ≡ bit_and (differing m x 0 y) (2 ^ m - 1 - erased) → distance ≡ ones mask
    → erased < 2 ^ m
    → (n : ℕ) → n ≤ m → x < 4 ^ n → y < 4 ^ n → Compared n x erased y mask distance
compared m x erased y {mask} {distance} p q l n h a b =
    subst (λ d. Compared n x erased y mask d) (sym counted)
    (subst (λ w. Compared n x erased y w (label_distance n x erased y)) (sym is) (compares n x erased y))
  where
    is : mask ≡ differing n x erased y
    is = p ∙ unerased m x erased y l ∙ fewer n m x erased y a b h

    counted : distance ≡ label_distance n x erased y
    counted =
        q ∙ ones_marked n mask (rw is (differing_short n x erased y)) ∙ ap (marked_in n) is ∙ sym (distance_is_lem n x erased y)

-- ---- for callers: of longer labels, the last n symbols

pub marks_last : {m x erased y mask distance : ℕ} → Compared m x erased y mask distance → (n t : ℕ) → n ≤ m → t < n
    → marked_at n t mask ≡ differs_at n x erased y t
unfolding marked_at differs_at symbol
marks_last {m} {x} {erased} {y} {mask} C n t h k =
    let place : m - suc (m - n + t) ≡ n - suc t = omega arith in
    rw place at (C.marks (m - n + t) (omega arith))

-- the label of m symbols that are all a
unfoldable pub repeated : ℕ → ℕ → ℕ
repeated zero a = 0
repeated (suc m) a = repeated m a * 4 + a

repeated_digit : (m j a : ℕ) → a < 4 → j < m → repeated m a / 4 ^ j % 4 ≡ a
unfolding repeated
repeated_digit zero j a h k = absurd (not-suc-le-zero k)
repeated_digit (suc m) zero a h k = ap (λ w. w % 4) (div-one (repeated m a * 4 + a)) ∙ digits_mod (repeated m a) h
repeated_digit (suc m) (suc j) a h k =
    ap (λ w. (repeated m a * 4 + a) / w % 4) (pow-succ' 4 j) ∙ ap (λ w. w % 4) (sym (div-div-eq-div-mul (repeated m a * 4 + a) 4 (4 ^ j)))
    ∙ ap (λ w. w / 4 ^ j % 4) (digits_div (repeated m a) h) ∙ repeated_digit m j a h (omega arith)

-- compared with that label, the mask tells what the symbol a costs
pub symbol_cost_lem : {m x erased y mask distance : ℕ} → Compared m x erased y mask distance → (a : ℕ) → y ≡ repeated m a → a < 4
    → (n t : ℕ) {cost : ℕ} → n ≤ m → t < n → cost ≡ one_if (marked_at n t mask) → cost ≡ symbol_cost n x erased t a
unfolding differs_at symbol_cost_by symbol
symbol_cost_lem {m} {x} {erased} {y} {mask} C a e small n t h k c =
    let s : y / 4 ^ (n - suc t) % 4 ≡ a = ap (λ w. w / 4 ^ (n - suc t) % 4) e ∙ repeated_digit m (n - suc t) a small (omega arith) in
    c ∙ ap one_if (marks_last C n t h k) ∙ sym (cost_is (marked_at n t erased) (symbol n t x) (symbol n t y))
    ∙ ap (cost_over erasure_cost (marked_at n t erased) (symbol n t x)) s
