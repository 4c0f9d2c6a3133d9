-- Labels from bits. Read from the highest, each bit is one symbol behind those before it: the last n - left of the bits above the last
-- `left`, spread, with the next bit behind them, are those of one bit more. And shifting and spreading keep addition; so the labels of all
-- sums of rows are all sums of the rows' labels.
use mathlib.Core.Path.{◌≡◌, refl, sym, ap, ap₂, ◌∙◌}
use mathlib.Core.List.{List, ◌∷◌}
use Prim.Native.Nat.{ℕ, zero, suc, ◌+◌, ◌-◌, ◌*◌, ◌/◌, ◌%◌, ◌^◌, ◌≤◌, ◌<◌}
use native.Mathlib.Omega.{arith}
use native.Mathlib.Nat.{div-one, sub_self, sub-zero, pow-suc, pow-le-pow_right}
use lib.Pow.{shr-shr}
use lib.Bits.{bit_and, and_mask}
use lib.Dec.{lit<}
use Rattle.trellis.specs.Lists.{run}
use Rattle.rows.specs.Sums.{sum_of}
use Rattle.rows.specs.Table.{spread}
use Rattle.rows.proofs.Words.{spread_lt, spread_adds}
use Rattle.rows.proofs.Sums.{Additive, sum_map}
use Rattle.rows.proofs.Outer.{high_adds}
use Rattle.row_labels.specs.Inner.Labels.{labels_of}

-- ---- bit by bit

-- all but the last `left` bits are spread
pub record Spreading (x n label left : ℕ) : Type 0 where
  pub is : label ≡ spread (n - left) (x / 2 ^ left)
  pub most : left ≤ n

pub spreading_none : (x n : ℕ) → Spreading x n 0 n
unfolding spread
spreading_none x n = record { is = ap (λ k. spread k (x / 2 ^ n)) (sym (sub_self n)); most = omega arith }

pub spreading_next : {x n label left : ℕ} → Spreading x n label left → 0 < left
    → Spreading x n (4 * label + bit_and (x / 2 ^ (left - 1)) 1) (left - 1)
unfolding spread
spreading_next {x} {n} {label} {left} S h =
    let e : suc (n - left) ≡ n - (left - 1) = omega (arith, S.most) in
    let f : left ≡ (left - 1) + 1 = omega arith in
    let g : label ≡ spread (n - left) (x / 2 ^ (left - 1) / 2) =
    S.is ∙ ap (spread (n - left)) (ap (λ k. x / 2 ^ k) f ∙ sym (shr-shr x (left - 1) 1)) in
    let a : bit_and (x / 2 ^ (left - 1)) 1 ≡ x / 2 ^ (left - 1) % 2 = and_mask (x / 2 ^ (left - 1)) 1 in
    let i : 4 * label + bit_and (x / 2 ^ (left - 1)) 1 ≡ spread (suc (n - left)) (x / 2 ^ (left - 1)) = omega (arith, g, a) in
    record { is = i ∙ ap (λ k. spread k (x / 2 ^ (left - 1))) e; most = omega (arith, S.most) }

-- a label has room for one symbol more
pub spreading_fits : {x n label left : ℕ} → Spreading x n label left → 0 < left → n ≤ 8 → 4 * label + 1 < 65536
spreading_fits {x} {n} {label} {left} S h l =
    omega (arith, S.is, spread_lt (n - left) (x / 2 ^ left), pow-suc 4 (n - left), at_most (suc (n - left)) (omega (arith, S.most)))
  where
    at_most : (k : ℕ) → k ≤ 8 → 4 ^ k ≤ 65536
    at_most k q = pow-le-pow_right (lit< tt) q

pub spreading_end : {x n label left : ℕ} → Spreading x n label left → left ≤ 0 → label ≡ spread n x
spreading_end {x} {n} {label} {left} S h =
    let e : left ≡ 0 = omega arith in
    S.is ∙ ap (λ k. spread (n - k) (x / 2 ^ k)) e ∙ ap₂ spread (sub-zero n) (div-one x)

-- ---- sum by sum

label_adds : (s n : ℕ) → Additive (λ x. spread n (x / 2 ^ s))
label_adds s n = record {
  adds = λ x y. ap (spread n) ((high_adds s).adds x y) ∙ (spread_adds n).adds (x / 2 ^ s) (y / 2 ^ s);
}

-- the sums of the labels are the labels of the sums
pub labels_sums : (s n : ℕ) (rows : List ℕ) (at count : ℕ)
    → run (sum_of (labels_of s n rows)) at count ≡ labels_of s n (run (sum_of rows) at count)
unfolding run
labels_sums s n rows at zero = refl
labels_sums s n rows at (suc count) =
    ap₂ (λ x l. x ∷ l) (sum_map (label_adds s n) rows at) (labels_sums s n rows (suc at) count)
