-- The reduced rows read off, column by column: those that are found so far and those that the columns left stand for make all of them. A
-- column below its power of 2 gives one row more, written behind the others.
use mathlib.Core.Path.{◌≡◌, refl, sym, ap, ◌∙◌}
use mathlib.Core.Bool.{Bool, true, false, cond}
use mathlib.Core.List.{List, [], ◌∷◌, ◌++◌, append-nil, append_assoc}
use Prim.Native.Nat.{ℕ, suc, ◌+◌, ◌^◌, ◌≤◌, ◌<◌}
use native.Mathlib.Omega.{arith}
use native.Mathlib.Numerals.{add-one}
use lib.ListN.{length, get_or, take, drop, set, length-set}
use lib.Seq.{length-take-le, drop-cons, drop-length, take-suc-set, take-set-le}
use lib.Dec.{ltb}
use lib.Bits.{bit_xor}
use mir.Val.{bool_byte}
use Rattle.trellis.specs.Lists.{one_if}
use Rattle.rows.specs.Sums.{◌⊕◌}
use Rattle.rows.specs.Inner.Reduced.{rows_from, reduced_rows}
use Rattle.parity.specs.Inner.Steps.{Basis}

-- a test as a number counts one where it holds
pub test_is_one_if : (t : Bool) → bool_byte t ≡ one_if t
test_is_one_if true = refl
test_is_one_if false = refl

-- the first count are those of the columns before m
pub record Reducing (columns : List ℕ) (m : ℕ) (rows : List ℕ) (count : ℕ) : Type 0 where
  pub whole : take count rows ++ rows_from m (drop m columns) ≡ reduced_rows columns
  pub few : count ≤ m
  pub most : m ≤ 16
  pub sixteen : length rows ≡ 16

pub reducing_none : (columns rows : List ℕ) → length rows ≡ 16 → Reducing columns 0 rows 0
reducing_none columns rows h = record { whole = refl; few = omega arith; most = omega arith; sixteen = h }

pub reducing_next : {columns rows : List ℕ} {m count next power : ℕ} → Reducing columns m rows count → m < 16 → length columns ≡ 16
    → power ≡ 2 ^ m → next ≡ count + one_if (ltb (get_or columns m 0) power)
    → Reducing columns (m + 1) (set rows count (bit_xor power (get_or columns m 0))) next
unfolding rows_from
reducing_next {columns} {rows} {m} {count} {next} {power} R h l u e = record {
  whole = go (ltb x (2 ^ m)) refl (sym (ap (λ d. take count rows ++ rows_from m d) (drop-cons columns m 0 (omega arith))) ∙ R.whole);
  few = grown (ltb x power) e;
  most = omega arith;
  sixteen = length-set rows count (bit_xor power x) ∙ R.sixteen;
}
  where
    x : ℕ
    x = get_or columns m 0

    rest : List ℕ
    rest = rows_from (suc m) (drop (suc m) columns)

    now : List ℕ
    now = set rows count (bit_xor power x)

    grown : (t : Bool) → next ≡ count + one_if t → next ≤ m + 1
    grown true q = omega (arith, R.few)
    grown false q = omega (arith, R.few)

    counts : (t : Bool) → ltb x (2 ^ m) ≡ t → next ≡ count + one_if t
    counts t q = e ∙ ap (λ k. count + one_if (ltb x k)) u ∙ ap (λ b. count + one_if b) q

    front : (t : Bool) → next ≡ count + one_if t → take next now ++ rest ≡ take count rows ++ cond t ((2 ^ m ⊕ x) ∷ rest) rest
    front true q =
        let n : next ≡ suc count = omega arith in
        ap (λ k. take k now ++ rest) n
        ∙ ap (λ k. k ++ rest) (take-suc-set rows count (bit_xor power x) (omega (arith, R.few, R.sixteen)))
        ∙ append_assoc (take count rows) (bit_xor power x ∷ []) rest
        ∙ ap (λ k. take count rows ++ ((k ⊕ x) ∷ rest)) u
    front false q =
        let n : next ≡ count = omega arith in
        ap (λ k. take k now ++ rest) n ∙ ap (λ k. k ++ rest) (take-set-le count rows count (bit_xor power x) (omega arith))

    go : (t : Bool) → ltb x (2 ^ m) ≡ t → take count rows ++ cond (ltb x (2 ^ m)) ((2 ^ m ⊕ x) ∷ rest) rest ≡ reduced_rows columns
        → take next now ++ rows_from (m + 1) (drop (m + 1) columns) ≡ reduced_rows columns
    go t q w = ap (λ k. take next now ++ rows_from k (drop k columns)) (add-one m) ∙ front t (counts t q)
        ∙ ap (λ b. take count rows ++ cond b ((2 ^ m ⊕ x) ∷ rest) rest) (sym q) ∙ w

pub reducing_end : {columns rows : List ℕ} {m count : ℕ} → Reducing columns m rows count → 16 ≤ m → length columns ≡ 16
    → Basis columns rows count
unfolding rows_from
reducing_end {columns} {rows} {m} {count} R h l =
    let e : m ≡ length columns = omega (arith, R.most) in
    let left : rows_from m (drop m columns) ≡ [] = ap (rows_from m) (ap (λ i. drop i columns) e ∙ drop-length columns) in
    record {
      are = sym (append-nil (take count rows)) ∙ ap (λ k. take count rows ++ k) (sym left) ∙ R.whole;
      few = omega (arith, R.few, R.most);
      sixteen = R.sixteen;
    }

-- they stand in front of their array
pub basis_length : {columns array : List ℕ} {count : ℕ} → Basis columns array count → count ≡ length (take count array)
basis_length {columns} {array} {count} B = sym (length-take-le count array (omega (arith, B.few, B.sixteen)))

pub basis_fits : {columns array : List ℕ} {count : ℕ} → Basis columns array count → count ≤ length array
basis_fits B = omega (arith, B.few, B.sixteen)
