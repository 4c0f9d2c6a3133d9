-- Laws of single bits: of small numbers, of powers of 2, of sums.
use mathlib.Core.Path.{◌≡◌, ap, ap₂, ◌∙◌}
use mathlib.Core.List.{List, [], ◌∷◌}
use Prim.Native.Nat.{ℕ, zero, suc, ◌+◌, ◌-◌, ◌*◌, ◌/◌, ◌%◌, ◌^◌, ◌≤◌, ◌<◌}
use native.Mathlib.Omega.{arith}
use native.Mathlib.Nat.{mod-lt, div-eq_of_lt, pow-suc, mul-mod_left}
use native.Mathlib.Decide.{dec_lt}
use lib.Arith.{digits_div}
use lib.Pow.{pow_pos, pow-lt, pow-add, shl-shr}
use lib.Bits.{differ}
use lib.ListN.{get_or}
use Rattle.rows.specs.Sums.{◌⊕◌, chosen, sum_of}
use Rattle.rows.specs.Inner.Reduced.{bit_at}
use Rattle.rows.proofs.Xor.{bit_xor}

pub bit_lt : (p x : ℕ) → bit_at p x < 2
unfolding bit_at
bit_lt p x = mod-lt (x / 2 ^ p) (omega arith)

pub bit_small : (p x : ℕ) → x < 2 ^ p → bit_at p x ≡ 0
unfolding bit_at
bit_small p x h = ap (λ k. k % 2) (div-eq_of_lt h)

-- the highest bit
pub top_is : (p x : ℕ) → 2 ^ p ≤ x → x < 2 ^ suc p → x / 2 ^ p ≡ 1
top_is p x h k =
    let e : x ≡ 1 * 2 ^ p + (x - 2 ^ p) = omega arith in
    ap (λ z. z / 2 ^ p) e ∙ digits_div 1 {m = 2 ^ p} {r = x - 2 ^ p} (omega (arith, pow-suc 2 p))

pub bit_top : (p x : ℕ) → 2 ^ p ≤ x → x < 2 ^ suc p → bit_at p x ≡ 1
unfolding bit_at
bit_top p x h k = ap (λ z. z % 2) (top_is p x h k)

pub bit_ge : (p x : ℕ) → bit_at p x ≡ 1 → 2 ^ p ≤ x
bit_ge p x e = go (dec_lt x (2 ^ p))
  where
    go : Dec (x < 2 ^ p) → 2 ^ p ≤ x
    go (yes h) = absurd (omega (arith, bit_small p x h))
    go (no h) = omega arith

-- ---- powers of 2

pub power_self : (p : ℕ) → bit_at p (2 ^ p) ≡ 1
power_self p = bit_top p (2 ^ p) (omega arith) (omega (arith, pow-suc 2 p, pow_pos p))

pub power_above : (p m : ℕ) → p < m → bit_at p (2 ^ m) ≡ 0
unfolding bit_at
power_above p m h =
    let e : m ≡ suc (m - suc p) + p = omega arith in
    ap (λ k. 2 ^ k / 2 ^ p % 2) e
    ∙ ap (λ k. k / 2 ^ p % 2) (pow-add 2 (suc (m - suc p)) p)
    ∙ ap (λ k. k % 2) (shl-shr (2 ^ suc (m - suc p)) p ∙ pow-suc 2 (m - suc p))
    ∙ mul-mod_left (2 ^ (m - suc p)) 2

pub power_other : (p m : ℕ) → (m ≡ p → ⊥) → bit_at p (2 ^ m) ≡ 0
power_other p m d = go (dec_lt m p) (dec_lt p m)
  where
    go : Dec (m < p) → Dec (p < m) → bit_at p (2 ^ m) ≡ 0
    go (yes h) k = bit_small p (2 ^ m) (pow-lt h)
    go (no h) (yes k) = power_above p m k
    go (no h) (no k) = absurd (d (omega arith))

-- ---- sums

pub chosen_clear : (q b r : ℕ) → bit_at q r ≡ 0 → bit_at q (chosen b r) ≡ 0
unfolding chosen
chosen_clear q zero r h = bit_small q 0 (pow_pos q)
chosen_clear q (suc b) r h = h

pub bit_clear : (q x y : ℕ) → bit_at q x ≡ 0 → bit_at q y ≡ 0 → bit_at q (x ⊕ y) ≡ 0
bit_clear q x y h k = bit_xor q x y ∙ ap₂ differ h k

-- a bit that no row has
pub sum_clear : (q : ℕ) (rows : List ℕ) → ((m : ℕ) → bit_at q (get_or rows m 0) ≡ 0) → (i : ℕ) → bit_at q (sum_of rows i) ≡ 0
unfolding sum_of
sum_clear q [] h i = bit_small q 0 (pow_pos q)
sum_clear q (r ∷ rows) h i =
    bit_clear q (chosen (i % 2) r) (sum_of rows (i / 2)) (chosen_clear q (i % 2) r (h 0)) (sum_clear q rows (λ m. h (suc m)) (i / 2))
