-- The mask's bits are its base-2 digits, read by a shift and `&`; the digits of a label that fits a block are 0 where they are erased.
use mathlib.Core.Path.{◌≡◌, sym, ap, subst, ◌∙◌}
use mathlib.Core.Bool.{Bool, true, false}
use Prim.Native.Nat.{ℕ, suc, ◌-◌, ◌*◌, ◌/◌, ◌%◌, ◌^◌, ◌≤◌, ◌<◌}
use native.Mathlib.Nat.{zero-add, div-eq_of_lt, div-lt_iff_lt-mul, pow-le-pow_right, lt_of_lt_of_le}
use native.Mathlib.Decide.{dec_lt}
use native.Mathlib.Omega.{arith}
use lib.Bits.{bit_and, and_mask}
use lib.Pow.{pow_pos}
use lib.Dec.{ltb, eqb, lit<}
use borrow.Author.Tests.{lt-ltb, le-ltb, eq-eqb, ne_eqb}
use lib.ListN.{length}
use Rattle.std.proofs.Common.{MatchBool}
use Rattle.std.specs.List.{AllWithin, HoldsAt, range_with_len}
use Rattle.std.proofs.lemmas.List.FromFn.{get_or-range_with_len, length-range_with_len}
use Rattle.trellis.specs.Lists.{one_if, first}
use Rattle.trellis.specs.Comparing.{marked_at}
use Rattle.trellis.proofs.Bools.{holds, fails}
use Rattle.trellis.proofs.Lists.{First, first_ok, first_is}
use Rattle.trellis.proofs.Comparing.{bit_is}
use Rattle.received.specs.Received.{stray}

pub bit_at : (n t mask : ℕ) → bit_and (mask / 2 ^ (n - 1 - t)) 1 ≡ one_if (marked_at n t mask)
unfolding marked_at
bit_at n t mask =
    let e : n - 1 - t ≡ n - suc t = omega arith in
    and_mask (mask / 2 ^ (n - 1 - t)) 1 ∙ ap (λ k. mask / 2 ^ k % 2) e ∙ bit_is (mask / 2 ^ (n - suc t))

pub mask_fits : (mask n : ℕ) → eqb (mask / 2 ^ n) 0 ≡ ltb mask (2 ^ n)
mask_fits mask n = go (dec_lt mask (2 ^ n))
  where
    go : Dec (mask < 2 ^ n) → eqb (mask / 2 ^ n) 0 ≡ ltb mask (2 ^ n)
    go (yes h) = let e = div-eq_of_lt h in rw (e, lt-ltb mask (2 ^ n) h)
    go (no h) =
        let l : 2 ^ n ≤ mask = omega arith in
        ne_eqb (mask / 2 ^ n) 0 (λ e. h (below (omega arith))) ∙ sym (le-ltb mask (2 ^ n) l)
      where
        below : mask / 2 ^ n < 1 → mask < 2 ^ n
        below k = let b : mask < 1 * 2 ^ n = (div-lt_iff_lt-mul (pow_pos n)).0 k in omega arith

pub mask_all : (mask n : ℕ) → mask < 256 → 8 ≤ n → true ≡ ltb mask (2 ^ n)
mask_all mask n a b = sym (lt-ltb mask (2 ^ n) (lt_of_lt_of_le a (pow-le-pow_right (lit< tt) b)))

-- ---- no stray symbol

-- all symbols passed the test, or one of them is stray
pub clear_is : (n received erased : ℕ) (r : Bool)
    → MatchBool r (AllWithin (λ t. stray n received erased t ≡ false) (range_with_len 0 n) 0 (length (range_with_len 0 n)))
    ((k : ℕ) × (k < length (range_with_len 0 n)) × HoldsAt (λ t. stray n received erased t ≡ true) (range_with_len 0 n) k)
    → r ≡ eqb (first (stray n received erased) n) n
clear_is n received erased true A = sym (eq-eqb (first (stray n received erased) n) n (first_is (stray n received erased) n n F))
  where
    at : (j : ℕ) → j < n → stray n received erased j ≡ false
    at j h =
        subst (λ t. stray n received erased t ≡ false) (get_or-range_with_len 0 n j 0 h ∙ zero-add j)
        (A j 0 (omega arith) (omega (arith, length-range_with_len 0 n)))

    F : First (stray n received erased) n n
    F = record { most = omega arith; hit = λ h. absurd (omega arith); miss = λ j h. fails (at j h) }
clear_is n received erased false A = sym (ne_eqb (first (stray n received erased) n) n other)
  where
    k : ℕ
    k = A.0

    inside : k < n
    inside = omega (arith, A.1, length-range_with_len 0 n)

    found : stray n received erased k ≡ true
    found = subst (λ t. stray n received erased t ≡ true) (get_or-range_with_len 0 n k 0 inside ∙ zero-add k) (A.2 0)

    other : first (stray n received erased) n ≡ n → ⊥
    other e = (first_ok (stray n received erased) n).miss k (omega (arith, inside, e)) (holds found)
