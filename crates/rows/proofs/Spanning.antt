-- Any rows of N bits have a check in reduced form. Rows are taken up one by one: a row of syndrome 0 changes nothing, any other is taken up
-- by the highest bit of its syndrome, which is below 2 ^ N since every column is. So there are reduced rows for any rows, and they are few:
-- their 2 ^ r sums rise strictly, so the last is at least 2 ^ r - 1, and there are at most 2 ^ k different sums of k rows.
use mathlib.Core.Path.{◌≡◌, sym, ap, subst, ◌∙◌}
use mathlib.Core.Logic.{◌⊎◌, inl, inr}
use mathlib.Core.List.{List, [], ◌∷◌, ◌++◌}
use Prim.Native.Nat.{ℕ, zero, suc, ◌-◌, ◌^◌, ◌≤◌, ◌<◌}
use native.Mathlib.Omega.{arith}
use native.Mathlib.Decide.{ℕ_discrete, dec_lt}
use lib.ListN.{length, get_or, take}
use lib.Seq.{take-suc, take-length}
use lib.Dec.{ltb}
use lib.Pow.{pow_pos, pow-lt}
use Rattle.trellis.specs.Lists.{◌∈◌, each}
use Rattle.trellis.proofs.Lists.{place_of, length_run}
use Rattle.trellis.proofs.Ascending.{numbers, ascending_length}
use Rattle.rows.specs.Sums.{sum_of, choices, sums}
use Rattle.rows.specs.Inner.Reduced.{reduced_rows, no_rows, add_row, Narrow, Spans}
use Rattle.rows.proofs.Sums.{sum_lt, sum_is}
use Rattle.rows.proofs.Order.{reduced_sum, reduced_rises}
use Rattle.rows.proofs.Growing.{spans_none, spans_same, spans_more, spans_sums, narrow_sum}

-- ---- powers of 2

pub power_le : (a b : ℕ) → 2 ^ a ≤ 2 ^ b → a ≤ b
power_le a b h = go (dec_lt b a)
  where
    go : Dec (b < a) → a ≤ b
    go (yes l) = absurd (omega (arith, pow-lt {i = b} {j = a} l))
    go (no l) = omega arith

-- the highest bit of a number
pub record Highest (N z : ℕ) : Type 0 where
  pub place : ℕ
  pub below : place < N
  pub least : 2 ^ place ≤ z
  pub most : z < 2 ^ suc place

pub highest : (N z : ℕ) → 0 < z → z < 2 ^ N → Highest N z
highest zero z p h = absurd (omega arith)
highest (suc N) z p h = go (dec_lt z (2 ^ N)) (highest N z p)
  where
    go : Dec (z < 2 ^ N) → (z < 2 ^ N → Highest N z) → Highest (suc N) z
    go (yes l) r = let H = r l in record { place = H.place; below = omega (arith, H.below); least = H.least; most = H.most }
    go (no l) r = record { place = N; below = omega arith; least = omega arith; most = h }

-- ---- any rows have a check

pub record Spanned (N : ℕ) (rows : List ℕ) : Type 0 where
  pub columns : List ℕ
  pub spans : Spans N rows columns

pub syndrome_lt : {N : ℕ} {rows columns : List ℕ} → Spans N rows columns → (x : ℕ) → sum_of columns x < 2 ^ N
syndrome_lt {N} {rows} {columns} S x = sum_lt N columns column x
  where
    inside : (m : ℕ) → m < N → (get_or columns m 0 ≡ 2 ^ m) ⊎ (get_or columns m 0 < 2 ^ m) → get_or columns m 0 < 2 ^ N
    inside m h (inl e) = omega (arith, pow-lt {i = m} {j = N} h)
    inside m h (inr l) = omega (arith, pow-lt {i = m} {j = N} h)

    column : (r : ℕ) → r ∈ columns → r < 2 ^ N
    column r m =
        let P = place_of 0 columns r m in
        subst (λ k. k < 2 ^ N) P.is (inside P.at (omega (arith, P.below, S.checks.wide)) (S.reduced.low P.at P.below))

module _ (N : ℕ) (rows : List ℕ) (narrow : Narrow N rows) where
  taken : (j : ℕ) → j ≤ length rows → Spanned N (take j rows)
  taken zero h = record { columns = no_rows N; spans = spans_none N }
  taken (suc j) h = subst (Spanned N) (sym (take-suc rows j 0 h)) (more (taken j (omega arith)))
    where
      more : Spanned N (take j rows) → Spanned N (take j rows ++ (get_or rows j 0 ∷ []))
      more S = go (ℕ_discrete (sum_of S.columns (get_or rows j 0)) 0)
        where
          go : Dec (sum_of S.columns (get_or rows j 0) ≡ 0) → Spanned N (take j rows ++ (get_or rows j 0 ∷ []))
          go (yes e) = record { columns = S.columns; spans = spans_same S.spans (get_or rows j 0) (narrow j h) e }
          go (no d) =
              let H = highest N (sum_of S.columns (get_or rows j 0)) (omega arith) (syndrome_lt S.spans (get_or rows j 0)) in
              record {
                columns = add_row H.place (sum_of S.columns (get_or rows j 0)) S.columns;
                spans = spans_more S.spans (get_or rows j 0) (narrow j h) H.place H.below H.least H.most;
              }

  pub spanned : Spanned N rows
  spanned = subst (Spanned N) (take-length rows) (taken (length rows) (omega arith))

-- ---- reduced rows are few

rising : (f : ℕ → ℕ) (W : ℕ) → ((i j : ℕ) → i < j → j < W → f i < f j) → (i : ℕ) → i < W → i ≤ f i
rising f W h zero k = omega arith
rising f W h (suc i) k = omega (arith, rising f W h i (omega arith), h i (suc i) (omega arith) k)

-- rows of M bits have no more than M reduced rows, however wide the check is
pub reduced_few : {N M : ℕ} {rows columns : List ℕ} → Spans N rows columns → Narrow N rows → Narrow M rows
    → length (reduced_rows columns) ≤ M
reduced_few {N} {M} {rows} {columns} S narrow few = power_le (length (reduced_rows columns)) M (omega (
  arith,
  pow_pos (length (reduced_rows columns)),
  rising (sum_of (reduced_rows columns)) (choices (reduced_rows columns)) (reduced_rises S.checks S.reduced) last
      (omega (arith, pow_pos (length (reduced_rows columns)))),
  narrow_sum M rows few (sum_of (reduced_rows columns) last)
      (reduced_sum S.checks S.reduced (sum_of (reduced_rows columns) last) (sum_is (reduced_rows columns) last)),
))
  where
    last : ℕ
    last = choices (reduced_rows columns) - 1

module _ {N : ℕ} {rows columns : List ℕ} (S : Spans N rows columns) (narrow : Narrow N rows) where
  pub spans_length : length (sums rows) ≡ 2 ^ length (reduced_rows columns)
  spans_length = ap length (spans_sums S narrow) ∙ length_run (sum_of (reduced_rows columns)) 0 (choices (reduced_rows columns))

  pub reduced_most : length (reduced_rows columns) ≤ length rows
  unfolding sums
  reduced_most = power_le (length (reduced_rows columns)) (length rows) (omega (
    arith,
    spans_length,
    ascending_length ltb numbers (each (sum_of rows) (choices rows)),
    length_run (sum_of rows) 0 (choices rows),
  ))
