-- The sums of reduced rows ascend with their choices: of two choices the greater has a set bit where the highest difference is, and so has
-- its sum at that row's pivot, where no other row has a bit; below that pivot nothing counts. So the list of all sums in order is that of
-- the sums of reduced rows, by rising choice.
use mathlib.Core.Path.{◌≡◌, refl, sym, ap, ap₂, subst, ◌∙◌}
use mathlib.Core.Bool.{Bool, true, false, cond}
use mathlib.Core.Logic.{◌⊎◌, inl, inr}
use mathlib.Core.List.{List, [], ◌∷◌}
use Prim.Native.Nat.{ℕ, zero, suc, ◌+◌, ◌*◌, ◌/◌, ◌%◌, ◌^◌, ◌≤◌, ◌<◌}
use native.Mathlib.Omega.{arith}
use native.Mathlib.Numerals.{add-one}
use native.Mathlib.Nat.{div-one, div-eq_of_lt, pow-suc, add-zero, add-suc, suc-add, zero-add, mul-one, zero-mul, mod-lt}
use native.Mathlib.Decide.{dec_lt}
use lib.Pow.{pow_pos, pow-lt, shr-shr}
use lib.Bits.{differ, xor_step, xor_shr, xor_self, xor_zero_r}
use lib.ListN.{length, get_or}
use lib.Dec.{T, ltb, ltb→lt, lt→ltb}
use Rattle.trellis.specs.Lists.{run, each}
use Rattle.trellis.proofs.Bools.{holds, fails}
use Rattle.trellis.proofs.Lists.{From, of_run, in_each, of_each}
use Rattle.trellis.proofs.Ascending.{Ascends, numbers, ascends_same}
use Rattle.rows.specs.Sums.{◌⊕◌, chosen, sum_of, choices, IsSum, sums}
use Rattle.rows.specs.Inner.Reduced.{Checks, bit_at, Reduced, rows_from, reduced_rows}
use Rattle.rows.proofs.Xor.{power_xor, xor_four}
use Rattle.rows.proofs.Sums.{chosen_none, chosen_adds, low_bit, sum_cast, sum_none, sum_add, sum_chosen, sum_cons, sum_power}
use Rattle.rows.proofs.Bits.{top_is, power_above, bit_clear, sum_clear}
use Rattle.rows.proofs.Tables.{in_sums, of_sums, sums_ascend}

-- ---- the rows

-- a bit below all places that no column has, no row has
rows_clear : (q at : ℕ) (l : List ℕ) → q < at → ((m : ℕ) → bit_at q (get_or l m 0) ≡ 0) → (m : ℕ) → bit_at q (get_or (rows_from at l) m 0) ≡ 0
unfolding rows_from
rows_clear q at [] h c m = c m
rows_clear q at (x ∷ l) h c m = go (ltb x (2 ^ at)) (rows_clear q (suc at) l (omega arith) (λ k. c (suc k))) m
  where
    go : (b : Bool) → ((k : ℕ) → bit_at q (get_or (rows_from (suc at) l) k 0) ≡ 0) → (k : ℕ)
        → bit_at q (get_or (cond b ((2 ^ at ⊕ x) ∷ rows_from (suc at) l) (rows_from (suc at) l)) k 0) ≡ 0
    go true r zero = bit_clear q (2 ^ at) x (power_above q at h) (c 0)
    go true r (suc k) = r k
    go false r k = r k

-- ---- halves

half_on : (x k : ℕ) → x / 2 ^ suc k ≡ x / 2 ^ k / 2
half_on x k = ap (λ m. x / 2 ^ m) (sym (add-one k)) ∙ sym (shr-shr x k 1)

less_on : (k x y : ℕ) → x / 2 ^ suc k < y / 2 ^ suc k → x / 2 ^ k < y / 2 ^ k
less_on k x y h = omega (arith, half_on x k, half_on y k)

-- what is below 2 ^ k does not count
drop_low : (k c x : ℕ) → c < 2 ^ k → (c ⊕ x) / 2 ^ k ≡ x / 2 ^ k
drop_low k c x h = xor_shr c x k ∙ ap (λ a. a ⊕ (x / 2 ^ k)) (div-eq_of_lt h)

one_and_even : (x : ℕ) → x % 2 ≡ 0 → 1 ⊕ x ≡ x + 1
one_and_even x e = xor_step 1 x ∙ ap (λ b. x / 2 * 2 + differ 1 b) e ∙ omega (arith, e)

-- ---- they rise

-- no column has a bit at a pivot, where column 0 stands at place at
pub record Frees (at : ℕ) (l : List ℕ) : Type 0 where
  pub free : (m p : ℕ) → p < length l → get_or l p 0 < 2 ^ (at + p) → bit_at (at + p) (get_or l m 0) ≡ 0

frees_tail : (at x : ℕ) (l : List ℕ) → Frees at (x ∷ l) → Frees (suc at) l
frees_tail at x l F = record {
  free = λ m p h k.
      let e : suc at + p ≡ at + suc p = suc-add at p ∙ sym (add-suc at p) in
      ap (λ a. bit_at a (get_or l m 0)) e ∙ F.free (suc m) (suc p) (omega arith) (subst (λ a. get_or l p 0 < 2 ^ a) e k);
}

-- so the rows behind a pivot have no bit there
rest_clear : (at x : ℕ) (l : List ℕ) → Frees at (x ∷ l) → x < 2 ^ at → (y : ℕ) → sum_of (rows_from (suc at) l) y / 2 ^ at % 2 ≡ 0
unfolding bit_at
rest_clear at x l F p y = sum_clear at (rows_from (suc at) l) (rows_clear at (suc at) l (omega arith)
    (λ m. ap (λ a. bit_at a (get_or l m 0)) (sym (add-zero at))
    ∙ F.free (suc m) 0 (omega arith) (subst (λ a. x < 2 ^ a) (sym (add-zero at)) p))) y

pub rises : (at : ℕ) (l : List ℕ) → Frees at l → (i j : ℕ) → i < j → j < choices (rows_from at l)
    → sum_of (rows_from at l) i / 2 ^ at < sum_of (rows_from at l) j / 2 ^ at
unfolding rows_from sum_of chosen
rises at [] F i j h k = absurd (omega arith)
rises at (x ∷ l) F i j h k = go (ltb x (2 ^ at)) refl k (rises (suc at) l (frees_tail at x l F))
  where
    rest : List ℕ
    rest = rows_from (suc at) l

    b : ℕ
    b = 2 ^ at ⊕ x

    row_low : x < 2 ^ at → (c : ℕ) → chosen c b < 2 ^ suc at
    row_low p zero = pow_pos (suc at)
    row_low p (suc c) = omega (arith, power_xor at x p, pow-suc 2 at)

    differs : x < 2 ^ at → j < 2 ^ suc (length rest)
        → ((u v : ℕ) → u < v → v < choices rest → sum_of rest u / 2 ^ suc at < sum_of rest v / 2 ^ suc at)
        → Dec (i / 2 < j / 2) → (chosen (i % 2) b ⊕ sum_of rest (i / 2)) / 2 ^ at < (chosen (j % 2) b ⊕ sum_of rest (j / 2)) / 2 ^ at
    differs p q r (yes d) = less_on at (chosen (i % 2) b ⊕ sum_of rest (i / 2)) (chosen (j % 2) b ⊕ sum_of rest (j / 2))
        (omega (
          arith,
          r (i / 2) (j / 2) d (omega (arith, pow-suc 2 (length rest))),
          drop_low (suc at) (chosen (i % 2) b) (sum_of rest (i / 2)) (row_low p (i % 2)),
          drop_low (suc at) (chosen (j % 2) b) (sum_of rest (j / 2)) (row_low p (j % 2)),
        ))
    differs p q r (no d) =
        let e : i % 2 ≡ 0 = omega arith in
        let f : j % 2 ≡ 1 = omega arith in
        let g : j / 2 ≡ i / 2 = omega arith in
        let even : sum_of rest (i / 2) / 2 ^ at % 2 ≡ 0 = rest_clear at x l F p (i / 2) in
        let first : (chosen (i % 2) b ⊕ sum_of rest (i / 2)) / 2 ^ at ≡ sum_of rest (i / 2) / 2 ^ at =
        ap (λ c. (chosen c b ⊕ sum_of rest (i / 2)) / 2 ^ at) e in
        let second : (chosen (j % 2) b ⊕ sum_of rest (j / 2)) / 2 ^ at ≡ 1 ⊕ (sum_of rest (i / 2) / 2 ^ at) =
        ap₂ (λ c y. (chosen c b ⊕ sum_of rest y) / 2 ^ at) f g ∙ xor_shr b (sum_of rest (i / 2)) at
        ∙ ap (λ c. c ⊕ (sum_of rest (i / 2) / 2 ^ at)) (top_is at b (omega (arith, power_xor at x p)) (row_low p 1)) in
        omega (arith, first, second, one_and_even (sum_of rest (i / 2) / 2 ^ at) even)

    go : (t : Bool) → ltb x (2 ^ at) ≡ t → j < choices (cond t (b ∷ rest) rest)
        → ((u v : ℕ) → u < v → v < choices rest → sum_of rest u / 2 ^ suc at < sum_of rest v / 2 ^ suc at)
        → sum_of (cond t (b ∷ rest) rest) i / 2 ^ at < sum_of (cond t (b ∷ rest) rest) j / 2 ^ at
    go true e q r = differs (ltb→lt x (2 ^ at) (holds e)) q r (dec_lt (i / 2) (j / 2))
    go false e q r = less_on at (sum_of rest i) (sum_of rest j) (r i j h q)

each_ascends : (f : ℕ → ℕ) (at count : ℕ) → ((i j : ℕ) → at ≤ i → i < j → j < at + count → f i < f j) → Ascends ltb (run f at count)
unfolding run
each_ascends f at zero h = tt
each_ascends f at (suc count) h =
    (λ y m. after y (of_run f (suc at) count y m), each_ascends f (suc at) count (λ i j a b c. h i j (omega arith) b (omega arith)))
  where
    after : (y : ℕ) → From (λ k. f (suc at + k)) count y → T (ltb (f at) y)
    after y F = subst (λ z. T (ltb (f at) z)) (sym F.is)
        (lt→ltb (f at) (f (suc at + F.at)) (h at (suc at + F.at) (omega arith) (omega arith) (omega (arith, F.below))))

-- ---- and they are the sums

-- each row is a sum of others
module _ {rows : List ℕ} where
  of_rows : (at : ℕ) (l : List ℕ) → ((m : ℕ) → m < length l → IsSum rows (2 ^ (at + m) ⊕ get_or l m 0))
      → (i : ℕ) → IsSum rows (sum_of (rows_from at l) i)
  unfolding rows_from sum_of
  of_rows at [] h i = sum_none
  of_rows at (x ∷ l) h i = go (ltb x (2 ^ at))
      (of_rows (suc at) l (λ m k. sum_cast (ap (λ a. 2 ^ a ⊕ get_or l m 0) (add-suc at m ∙ sym (suc-add at m))) (h (suc m) (omega arith))))
    where
      go : (t : Bool) → ((k : ℕ) → IsSum rows (sum_of (rows_from (suc at) l) k))
          → IsSum rows (sum_of (cond t ((2 ^ at ⊕ x) ∷ rows_from (suc at) l) (rows_from (suc at) l)) i)
      go true r = sum_add (sum_chosen (i % 2) (sum_cast (ap (λ a. 2 ^ a ⊕ x) (add-zero at)) (h 0 (omega arith)))) (r (i / 2))
      go false r = r i

-- a number differs from its syndrome by a sum of reduced rows
to_rows : (at : ℕ) (l : List ℕ) → ((m : ℕ) → m < length l → (get_or l m 0 ≡ 2 ^ (at + m)) ⊎ (get_or l m 0 < 2 ^ (at + m)))
    → (x : ℕ) → x < 2 ^ length l
    → IsSum (rows_from at l) ((x * 2 ^ at) ⊕ sum_of l x)
unfolding rows_from sum_of
to_rows at [] h x k =
    sum_cast (let e : x ≡ 0 = omega arith in sym (ap (λ a. (a * 2 ^ at) ⊕ 0) e ∙ ap (λ a. a ⊕ 0) (zero-mul (2 ^ at)))) sum_none
to_rows at (y ∷ l) h x k =
    sum_cast (sym parts)
    (go (ltb y (2 ^ at)) refl (to_rows (suc at) l (λ m q. moved m (h (suc m) (omega arith))) (x / 2) (omega (arith, pow-suc 2 (length l)))))
  where
    rest : ℕ
    rest = (x / 2 * 2 ^ suc at) ⊕ sum_of l (x / 2)

    parts : (x * 2 ^ at) ⊕ (chosen (x % 2) y ⊕ sum_of l (x / 2)) ≡ chosen (x % 2) (2 ^ at ⊕ y) ⊕ rest
    parts = ap (λ a. a ⊕ (chosen (x % 2) y ⊕ sum_of l (x / 2))) (sym (low_bit at x))
        ∙ xor_four (chosen (x % 2) (2 ^ at)) (x / 2 * 2 ^ suc at) (chosen (x % 2) y) (sum_of l (x / 2))
        ∙ ap (λ a. a ⊕ rest) (sym (chosen_adds (x % 2) (2 ^ at) y))

    moved : (m : ℕ) → (get_or l m 0 ≡ 2 ^ (at + suc m)) ⊎ (get_or l m 0 < 2 ^ (at + suc m))
        → (get_or l m 0 ≡ 2 ^ (suc at + m)) ⊎ (get_or l m 0 < 2 ^ (suc at + m))
    moved m s = subst (λ a. (get_or l m 0 ≡ 2 ^ a) ⊎ (get_or l m 0 < 2 ^ a)) (add-suc at m ∙ sym (suc-add at m)) s

    whole : ltb y (2 ^ at) ≡ false → (get_or (y ∷ l) 0 0 ≡ 2 ^ (at + 0)) ⊎ (get_or (y ∷ l) 0 0 < 2 ^ (at + 0)) → 2 ^ at ⊕ y ≡ 0
    whole e (inl f) = ap (λ a. 2 ^ at ⊕ a) (f ∙ ap (λ a. 2 ^ a) (add-zero at)) ∙ xor_self (2 ^ at)
    whole e (inr f) = absurd (fails e (lt→ltb y (2 ^ at) (subst (λ a. y < 2 ^ a) (add-zero at) f)))

    go : (t : Bool) → ltb y (2 ^ at) ≡ t → IsSum (rows_from (suc at) l) rest
        → IsSum (cond t ((2 ^ at ⊕ y) ∷ rows_from (suc at) l) (rows_from (suc at) l)) (chosen (x % 2) (2 ^ at ⊕ y) ⊕ rest)
    go true e S = sum_cons (2 ^ at ⊕ y) (x % 2) (mod-lt x (omega arith)) S
    go false e S =
        sum_cast (sym (ap (λ a. chosen (x % 2) a ⊕ rest) (whole e (h 0 (omega arith))) ∙ ap (λ a. a ⊕ rest) (chosen_none (x % 2)))) S

-- ---- all sums of rows, in order

module _ {N : ℕ} {rows columns : List ℕ} (C : Checks N rows columns) (R : Reduced columns) where
  pub reduced_sum : (x : ℕ) → IsSum (reduced_rows columns) x → IsSum rows x
  reduced_sum x S = sum_cast (sym S.is) (of_rows 0 columns (λ m h. sum_cast
      (ap₂ (λ a b. 2 ^ a ⊕ b) (sym (zero-add m)) (sum_power columns m))
      (C.covers (2 ^ m) (pow-lt (omega (arith, C.wide))))) S.choice)

  pub sum_reduced : (x : ℕ) → x < 2 ^ N → IsSum rows x → IsSum (reduced_rows columns) x
  sum_reduced x h S = sum_cast
      (ap₂ (λ a b. a ⊕ b) (mul-one x) (C.kills x S) ∙ xor_zero_r x)
      (to_rows 0 columns (λ m k. subst (λ a. (get_or columns m 0 ≡ 2 ^ a) ⊎ (get_or columns m 0 < 2 ^ a)) (sym (zero-add m)) (R.low m k)) x
      (subst (λ a. x < 2 ^ a) (sym C.wide) h))

  -- a check of the rows is one of the reduced rows
  pub reduced_checks : Checks N (reduced_rows columns) columns
  reduced_checks = record {
    wide = C.wide;
    kills = λ x S. C.kills x (reduced_sum x S);
    covers = λ x h. sum_cast (ap (λ a. a ⊕ sum_of columns x) (mul-one x))
        (to_rows 0 columns (λ m k. subst (λ a. (get_or columns m 0 ≡ 2 ^ a) ⊎ (get_or columns m 0 < 2 ^ a)) (sym (zero-add m)) (R.low m k)) x
        (subst (λ a. x < 2 ^ a) (sym C.wide) h));
  }

  pub reduced_rises : (i j : ℕ) → i < j → j < choices (reduced_rows columns) → sum_of (reduced_rows columns) i < sum_of (reduced_rows columns) j
  reduced_rises i j h k = omega (
    arith,
    rises 0 columns (record {
      free = λ m p q l.
          ap (λ a. bit_at a (get_or columns m 0)) (zero-add p) ∙ R.free m p q (subst (λ a. get_or columns p 0 < 2 ^ a) (zero-add p) l);
    }) i j h k,
    div-one (sum_of (reduced_rows columns) i),
    div-one (sum_of (reduced_rows columns) j),
  )

  -- sum number i of all sums is the sum of reduced rows by choice i
  pub sums_are : ((x : ℕ) → IsSum rows x → x < 2 ^ N) → sums rows ≡ each (sum_of (reduced_rows columns)) (choices (reduced_rows columns))
  sums_are small = ascends_same ltb numbers (sums rows) (each (sum_of B) (choices B)) (sums_ascend rows)
      (each_ascends (sum_of B) 0 (choices B) (λ i j a b c. reduced_rises i j b (omega arith)))
      (λ x m. let S = of_sums rows x m in let U = sum_reduced x (small x S) S in
      in_each (sum_of B) (choices B) U.choice x U.inside U.is)
      (λ x m. let F = of_each (sum_of B) (choices B) x m in
      in_sums rows x (reduced_sum x (record { choice = F.at; inside = F.below; is = F.is })))
    where
      B : List ℕ
      B = reduced_rows columns
