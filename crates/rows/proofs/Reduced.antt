-- The reduced form is kept when a row is added by the highest bit p of its syndrome z. No pivot is a bit of a syndrome, so p was none, and
-- column p was 2 ^ p; it becomes 2 ^ p + z, which is below 2 ^ p. Other columns 2 ^ m have no bit p and stay. A column below 2 ^ m that has
-- bit p stays below 2 ^ m, since p is below m.
use mathlib.Core.Path.{◌≡◌, refl, sym, ap, ap₂, subst, ◌∙◌}
use mathlib.Core.Bool.{Bool, true, false, cond}
use mathlib.Core.Logic.{◌⊎◌, inl, inr}
use mathlib.Core.List.{List, [], ◌∷◌, map}
use Prim.Native.Nat.{ℕ, zero, suc, ◌+◌, ◌*◌, ◌/◌, ◌^◌, ◌≤◌, ◌<◌}
use native.Mathlib.Omega.{arith}
use native.Mathlib.Nat.{mod-lt, zero-mul, zero-add, add-zero, add-suc, suc-add, not-suc-le-zero}
use native.Mathlib.Decide.{ℕ_discrete, dec_lt}
use lib.Pow.{pow_pos, pow_mono, split}
use lib.Bits.{differ, xor_shr, xor_lt, xor_zero_r}
use lib.ListN.{length, get_or, length-map, get_or-map}
use lib.Dec.{ltb}
use borrow.Author.Tests.{lt-ltb, le-ltb}
use Rattle.trellis.specs.Lists.{one_if}
use Rattle.trellis.proofs.Lists.{length_run, each_at}
use Rattle.rows.specs.Sums.{◌⊕◌, chosen, sum_of}
use Rattle.rows.specs.Inner.Reduced.{bit_at, no_rows, cleared, add_row, Reduced, rows_from, reduced_rows}
use Rattle.rows.proofs.Xor.{bit_xor}
use Rattle.rows.proofs.Sums.{additive_zero}
use Rattle.rows.proofs.Bits.{bit_lt, bit_ge, bit_top, top_is, power_self, power_other, chosen_clear, bit_clear, sum_clear}
use Rattle.rows.proofs.Check.{cleared_adds}

pub reduced_none : (N : ℕ) → Reduced (no_rows N)
unfolding no_rows
reduced_none N = record {
  low = λ m h. inl (column m (omega (arith, length_run (λ k. 2 ^ k) 0 N)));
  free = λ m p h k. absurd (omega (arith, column p (omega (arith, length_run (λ k. 2 ^ k) 0 N))));
}
  where
    column : (m : ℕ) → m < N → get_or (no_rows N) m 0 ≡ 2 ^ m
    column m h = each_at (λ k. 2 ^ k) N m 0 h

-- ---- one column

module _ (p z : ℕ) where
  cleared_zero : (y : ℕ) → bit_at p y ≡ 0 → cleared p z y ≡ y
  unfolding cleared chosen
  cleared_zero y e = ap (λ b. y ⊕ chosen b z) e ∙ xor_zero_r y

  cleared_one : (y : ℕ) → bit_at p y ≡ 1 → cleared p z y ≡ y ⊕ z
  unfolding cleared chosen
  cleared_one y e = ap (λ b. y ⊕ chosen b z) e

  -- bit p is set, or it is not
  either_bit : (y : ℕ) → (bit_at p y ≡ 0) ⊎ (bit_at p y ≡ 1)
  either_bit y = go (ℕ_discrete (bit_at p y) 0)
    where
      go : Dec (bit_at p y ≡ 0) → (bit_at p y ≡ 0) ⊎ (bit_at p y ≡ 1)
      go (yes e) = inl e
      go (no e) = inr (omega (arith, bit_lt p y))

  pub cleared_bit : (y : ℕ) → bit_at p z ≡ 1 → bit_at p (cleared p z y) ≡ 0
  cleared_bit y set = elim (either_bit y) [
    | inl e ↦ ap (bit_at p) (cleared_zero y e) ∙ e
    | inr e ↦ ap (bit_at p) (cleared_one y e) ∙ bit_xor p y z ∙ ap₂ differ e set
  ]

  pub cleared_other : (q y : ℕ) → bit_at q y ≡ 0 → bit_at q z ≡ 0 → bit_at q (cleared p z y) ≡ 0
  unfolding cleared
  cleared_other q y h k = bit_clear q y (chosen (bit_at p y) z) h (chosen_clear q (bit_at p y) z k)

  module _ (least : 2 ^ p ≤ z) (most : z < 2 ^ suc p) where
    pub cleared_top : cleared p z (2 ^ p) < 2 ^ p
    cleared_top = subst (λ y. y < 2 ^ p) (sym (cleared_one (2 ^ p) (power_self p)))
        (omega (arith, split (2 ^ p ⊕ z) p, mod-lt (2 ^ p ⊕ z) (pow_pos p), ap (λ k. k * 2 ^ p) gone ∙ zero-mul (2 ^ p)))
      where
        gone : (2 ^ p ⊕ z) / 2 ^ p ≡ 0
        gone = xor_shr (2 ^ p) z p ∙ ap₂ (λ a b. a ⊕ b) (top_is p (2 ^ p) (omega arith) (omega (arith, least))) (top_is p z least most)

    pub cleared_low : (m y : ℕ) → y < 2 ^ m → cleared p z y < 2 ^ m
    cleared_low m y h = elim (either_bit y) [
      | inl e ↦ subst (λ k. k < 2 ^ m) (sym (cleared_zero y e)) h
      | inr e ↦ subst (λ k. k < 2 ^ m) (sym (cleared_one y e)) (xor_lt m y z h (below (bit_ge p y e) (dec_lt p m)))
    ]
      where
        below : 2 ^ p ≤ y → Dec (p < m) → z < 2 ^ m
        below k (yes l) = omega (arith, pow_mono {i = suc p} {j = m} l)
        below k (no l) = absurd (omega (arith, pow_mono {i = m} {j = p} (omega arith)))

-- ---- how many rows

-- whether column m is below its power, where column 0 stands at place at
abbrev is_pivot : ℕ → List ℕ → ℕ → Bool
is_pivot at l m = ltb (get_or l m 0) (2 ^ (at + m))

pivot_head : (at x : ℕ) (l : List ℕ) → is_pivot at (x ∷ l) 0 ≡ ltb x (2 ^ at)
pivot_head at x l = ap (λ k. ltb x (2 ^ k)) (add-zero at)

pivot_tail : (at x m : ℕ) (l : List ℕ) → is_pivot at (x ∷ l) (suc m) ≡ is_pivot (suc at) l m
pivot_tail at x m l = ap (λ k. ltb (get_or l m 0) (2 ^ k)) (add-suc at m ∙ sym (suc-add at m))

rows_length : (at x : ℕ) (l : List ℕ) → length (rows_from at (x ∷ l)) ≡ one_if (ltb x (2 ^ at)) + length (rows_from (suc at) l)
unfolding rows_from
rows_length at x l = go (ltb x (2 ^ at))
  where
    go : (b : Bool) → length (cond b ((2 ^ at ⊕ x) ∷ rows_from (suc at) l) (rows_from (suc at) l)) ≡ one_if b + length (rows_from (suc at) l)
    go true = omega arith
    go false = omega arith

rows_keep : (at : ℕ) (a b : List ℕ) → length a ≡ length b → ((m : ℕ) → m < length a → is_pivot at a m ≡ is_pivot at b m)
    → length (rows_from at a) ≡ length (rows_from at b)
rows_keep at [] [] e h = refl
rows_keep at [] (y ∷ b) e h = absurd (omega arith)
rows_keep at (x ∷ a) [] e h = absurd (omega arith)
rows_keep at (x ∷ a) (y ∷ b) e h =
    rows_length at x a
    ∙ ap₂ (λ i j. one_if i + j) (sym (pivot_head at x a) ∙ h 0 (omega arith) ∙ pivot_head at y b)
    (rows_keep (suc at) a b (omega arith) (λ m l. sym (pivot_tail at x m a) ∙ h (suc m) (omega arith) ∙ pivot_tail at y m b))
    ∙ sym (rows_length at y b)

rows_grow : (at : ℕ) (a b : List ℕ) (q : ℕ) → length a ≡ length b → q < length a
    → ((m : ℕ) → m < length a → (m ≡ q → ⊥) → is_pivot at a m ≡ is_pivot at b m)
    → is_pivot at a q ≡ false → is_pivot at b q ≡ true → length (rows_from at b) ≡ suc (length (rows_from at a))
rows_grow at [] b q e l h f t = absurd (not-suc-le-zero l)
rows_grow at (x ∷ a) [] q e l h f t = absurd (omega arith)
rows_grow at (x ∷ a) (y ∷ b) zero e l h f t =
    let p = rows_keep (suc at) a b (omega arith)
    (λ m k. sym (pivot_tail at x m a) ∙ h (suc m) (omega arith) (λ c. omega arith) ∙ pivot_tail at y m b) in
    omega (arith, rows_length at x a, rows_length at y b, ap one_if (sym (pivot_head at x a) ∙ f), ap one_if (sym (pivot_head at y b) ∙ t))
rows_grow at (x ∷ a) (y ∷ b) (suc q) e l h f t =
    let p = rows_grow (suc at) a b q (omega arith) (omega arith)
    (λ m k d. sym (pivot_tail at x m a) ∙ h (suc m) (omega arith) (λ c. d (omega arith)) ∙ pivot_tail at y m b)
    (sym (pivot_tail at x q a) ∙ f) (sym (pivot_tail at y q b) ∙ t) in
    omega (
      arith,
      rows_length at x a,
      rows_length at y b,
      ap one_if (sym (pivot_head at x a) ∙ h 0 (omega arith) (λ c. omega arith) ∙ pivot_head at y b),
    )

-- ---- all columns

module _ {columns : List ℕ} (R : Reduced columns) (r p : ℕ) (inside : p < length columns)
    (least : 2 ^ p ≤ sum_of columns r) (most : sum_of columns r < 2 ^ suc p) where
  abbrev z : ℕ
  z = sum_of columns r

  abbrev more : List ℕ
  more = add_row p z columns

  column_is : (m : ℕ) → get_or more m 0 ≡ cleared p z (get_or columns m 0)
  unfolding add_row
  column_is m = ap (λ d. get_or (map (cleared p z) columns) m d) (sym (additive_zero (cleared_adds p z)))
      ∙ get_or-map (cleared p z) columns m 0

  pub more_length : length more ≡ length columns
  unfolding add_row
  more_length = length-map columns (cleared p z)

  set : bit_at p z ≡ 1
  set = bit_top p z least most

  -- a syndrome has no bit at a pivot
  clear : (q : ℕ) → q < length columns → get_or columns q 0 < 2 ^ q → bit_at q z ≡ 0
  clear q h k = sum_clear q columns (λ m. R.free m q h k) r

  was_free : get_or columns p 0 ≡ 2 ^ p
  was_free = elim (R.low p inside) [ inl e ↦ e | inr h ↦ absurd (omega (arith, set, clear p inside h)) ]

  now_pivot : get_or more p 0 < 2 ^ p
  now_pivot = subst (λ k. k < 2 ^ p) (sym (column_is p ∙ ap (cleared p z) was_free)) (cleared_top p z least most)

  free_stays : (m : ℕ) → (m ≡ p → ⊥) → get_or columns m 0 ≡ 2 ^ m → get_or more m 0 ≡ 2 ^ m
  free_stays m d e = column_is m ∙ ap (cleared p z) e ∙ cleared_zero p z (2 ^ m) (power_other p m d)

  pivot_stays : (m : ℕ) → get_or columns m 0 < 2 ^ m → get_or more m 0 < 2 ^ m
  pivot_stays m h = subst (λ k. k < 2 ^ m) (sym (column_is m)) (cleared_low p z least most m (get_or columns m 0) h)

  -- a pivot other than p was one before
  was_pivot : (q : ℕ) → q < length columns → (q ≡ p → ⊥) → get_or more q 0 < 2 ^ q → get_or columns q 0 < 2 ^ q
  was_pivot q h d k = elim (R.low q h) [ inl e ↦ absurd (omega (arith, free_stays q d e)) | inr l ↦ l ]

  pub reduced_more : Reduced more
  reduced_more = record {
    low = λ m h. lows m (omega (arith, more_length)) (ℕ_discrete m p);
    free = λ m q h k. subst (λ y. bit_at q y ≡ 0) (sym (column_is m)) (frees m q (omega (arith, more_length)) k (ℕ_discrete q p));
  }
    where
      lows : (m : ℕ) → m < length columns → Dec (m ≡ p) → (get_or more m 0 ≡ 2 ^ m) ⊎ (get_or more m 0 < 2 ^ m)
      lows m h (yes e) = inr (subst (λ k. get_or more k 0 < 2 ^ k) (sym e) now_pivot)
      lows m h (no d) = elim (R.low m h) [ inl e ↦ inl (free_stays m d e) | inr k ↦ inr (pivot_stays m k) ]

      frees : (m q : ℕ) → q < length columns → get_or more q 0 < 2 ^ q → Dec (q ≡ p) → bit_at q (cleared p z (get_or columns m 0)) ≡ 0
      frees m q h k (yes e) = subst (λ b. bit_at b (cleared p z (get_or columns m 0)) ≡ 0) (sym e) (cleared_bit p z (get_or columns m 0) set)
      frees m q h k (no d) = let l = was_pivot q h d k in cleared_other p z q (get_or columns m 0) (R.free m q h l) (clear q h l)

  -- ---- there is one pivot more

  pub one_more : length (reduced_rows more) ≡ suc (length (reduced_rows columns))
  one_more = rows_grow 0 columns more p (sym more_length) inside (λ m h d. same m d (R.low m h))
      (ap (λ k. ltb (get_or columns p 0) (2 ^ k)) (zero-add p) ∙ le-ltb (get_or columns p 0) (2 ^ p) (omega (arith, was_free)))
      (ap (λ k. ltb (get_or more p 0) (2 ^ k)) (zero-add p) ∙ lt-ltb (get_or more p 0) (2 ^ p) now_pivot)
    where
      same : (m : ℕ) → (m ≡ p → ⊥) → (get_or columns m 0 ≡ 2 ^ m) ⊎ (get_or columns m 0 < 2 ^ m) → is_pivot 0 columns m ≡ is_pivot 0 more m
      same m d (inl e) = ap (λ k. ltb k (2 ^ (0 + m))) (e ∙ sym (free_stays m d e))
      same m d (inr h) = ap (λ k. ltb (get_or columns m 0) (2 ^ k)) (zero-add m) ∙ lt-ltb (get_or columns m 0) (2 ^ m) h
          ∙ sym (ap (λ k. ltb (get_or more m 0) (2 ^ k)) (zero-add m) ∙ lt-ltb (get_or more m 0) (2 ^ m) (pivot_stays m h))
