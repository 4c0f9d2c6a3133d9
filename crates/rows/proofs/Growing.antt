-- A parity check that grows: it starts with no rows, takes up one row by the highest bit of its syndrome, and stops at a row of syndrome 0,
-- which is the first that is a sum of rows before it. In the end there are as many reduced rows as rows, so 2 ^ k sums of k rows, each
-- once.
use mathlib.Core.Path.{◌≡◌, refl, sym, ap, subst, ◌∙◌}
use mathlib.Core.List.{List, [], ◌∷◌, ◌++◌}
use Prim.Native.Nat.{ℕ, zero, suc, ◌^◌, ◌≤◌, ◌<◌}
use native.Mathlib.Omega.{arith}
use native.Mathlib.Decide.{ℕ_discrete}
use lib.ListN.{length, get_or, take}
use lib.Seq.{take-suc, take-length}
use lib.Pow.{pow_pos}
use lib.Dec.{T, eqb, eqb→eq, eqb_refl}
use borrow.Author.Tests.{le-ltb}
use Rattle.trellis.specs.Lists.{run, each}
use Rattle.trellis.proofs.Lists.{in_yes, in_of, first_is, place_of, length_run}
use Rattle.rows.specs.Sums.{sum_of, choices, IsSum, sums, is_dependent, first_dependent}
use Rattle.rows.specs.Inner.Reduced.{no_rows, add_row, rows_from, reduced_rows, Narrow, Spans, Echelon}
use Rattle.rows.specs.Inner.Growing.{Grown}
use Rattle.rows.proofs.Sums.{sum_lt}
use Rattle.rows.proofs.Bits.{bit_top}
use Rattle.rows.proofs.Check.{check_none, check_sum, check_more, check_same}
use Rattle.rows.proofs.Reduced.{reduced_none, reduced_more, one_more}
use Rattle.rows.proofs.Tables.{in_sums, of_sums}
use Rattle.rows.proofs.Order.{reduced_checks, reduced_sum, sums_are}

module _ (rows : List ℕ) (j : ℕ) where
  pub dependent_yes : T (is_dependent rows j) → IsSum (take j rows) (get_or rows j 0)
  unfolding is_dependent
  dependent_yes t = of_sums (take j rows) (get_or rows j 0) (in_yes eqb eqb→eq eqb_refl (get_or rows j 0) (sums (take j rows)) t)

  pub dependent_of : IsSum (take j rows) (get_or rows j 0) → T (is_dependent rows j)
  unfolding is_dependent
  dependent_of S = in_of eqb eqb→eq eqb_refl (get_or rows j 0) (sums (take j rows)) (in_sums (take j rows) (get_or rows j 0) S)

no_rows_lem : (at count : ℕ) → rows_from at (run (λ m. 2 ^ m) at count) ≡ []
unfolding rows_from run
no_rows_lem at zero = refl
no_rows_lem at (suc count) = rw (le-ltb (2 ^ at) (2 ^ at) (omega arith)) (no_rows_lem (suc at) count)

pub spans_none : (N : ℕ) → Spans N [] (no_rows N)
spans_none N = record { checks = check_none N; reduced = reduced_none N }

pub grown_none : (N : ℕ) (rows : List ℕ) → Grown N rows 0 (no_rows N)
unfolding no_rows
grown_none N rows = record { spans = spans_none N; count = ap length (no_rows_lem 0 N); none = λ i h t. omega arith }

-- ---- one row more

module _ {N : ℕ} {rows columns : List ℕ} (S : Spans N rows columns) (r : ℕ) (inside : r < 2 ^ N) where
  -- a row of syndrome 0 is a sum of the others and changes nothing
  pub spans_same : sum_of columns r ≡ 0 → Spans N (rows ++ (r ∷ [])) columns
  spans_same e = record { checks = check_same S.checks r inside e; reduced = S.reduced }

  -- any other is taken up by the highest bit of its syndrome
  pub spans_more : (p : ℕ) → p < N → 2 ^ p ≤ sum_of columns r → sum_of columns r < 2 ^ suc p
      → Spans N (rows ++ (r ∷ [])) (add_row p (sum_of columns r) columns)
  spans_more p l least most = record {
    checks = check_more S.checks r inside p (bit_top p (sum_of columns r) least most);
    reduced = reduced_more S.reduced r p (omega (arith, S.checks.wide)) least most;
  }

module _ {N : ℕ} {rows : List ℕ} {j : ℕ} {columns : List ℕ} (G : Grown N rows j columns) (h : j < length rows)
    (inside : get_or rows j 0 < 2 ^ N) where
  -- the next row is a sum of those before it exactly if its syndrome is 0
  pub grown_stop : sum_of columns (get_or rows j 0) ≡ 0 → first_dependent rows ≡ j
  unfolding first_dependent
  grown_stop e = first_is (is_dependent rows) (length rows) j (record {
    most = omega arith;
    hit = λ k. dependent_of rows j (check_sum G.spans.checks (get_or rows j 0) inside e);
    miss = G.none;
  })

  pub grown_next : (p : ℕ) → p < N → 2 ^ p ≤ sum_of columns (get_or rows j 0) → sum_of columns (get_or rows j 0) < 2 ^ suc p
      → Grown N rows (suc j) (add_row p (sum_of columns (get_or rows j 0)) columns)
  grown_next p l least most = record {
    spans = subst (λ rs. Spans N rs (add_row p (sum_of columns (get_or rows j 0)) columns)) (sym (take-suc rows j 0 h))
        (spans_more G.spans (get_or rows j 0) inside p l least most);
    count = one_more G.spans.reduced (get_or rows j 0) p (omega (arith, G.spans.checks.wide)) least most ∙ ap suc G.count;
    none = λ i k t. earlier i k t (ℕ_discrete i j);
  }
    where
      earlier : (i : ℕ) → i < suc j → T (is_dependent rows i) → Dec (i ≡ j) → ⊥
      earlier i k t (yes e) =
          let z = G.spans.checks.kills (get_or rows j 0) (dependent_yes rows j (subst (λ m. T (is_dependent rows m)) e t)) in
          omega (arith, pow_pos p)
      earlier i k t (no e) = G.none i (omega arith) t

-- sums of rows of N bits have N bits
pub narrow_sum : (N : ℕ) (rows : List ℕ) → Narrow N rows → (x : ℕ) → IsSum rows x → x < 2 ^ N
narrow_sum N rows narrow x S = subst (λ k. k < 2 ^ N) (sym S.is)
    (sum_lt N rows (λ r m. let P = place_of 0 rows r m in subst (λ k. k < 2 ^ N) P.is (narrow P.at P.below)) S.choice)

-- ---- the reduced rows

module _ {N : ℕ} {rows columns : List ℕ} (S : Spans N rows columns) where
  -- they have the same check
  pub echelon : Echelon N (reduced_rows columns) columns
  echelon = record { spans = record { checks = reduced_checks S.checks S.reduced; reduced = S.reduced }; are = refl }

  -- and the same sums, those of the reduced rows by rising choice
  pub spans_sums : Narrow N rows → sums rows ≡ each (sum_of (reduced_rows columns)) (choices (reduced_rows columns))
  spans_sums narrow = sums_are S.checks S.reduced (narrow_sum N rows narrow)

  pub same_sums : Narrow N rows → sums rows ≡ sums (reduced_rows columns)
  same_sums narrow = spans_sums narrow ∙ sym (sums_are (reduced_checks S.checks S.reduced) S.reduced
      (λ x R. narrow_sum N rows narrow x (reduced_sum S.checks S.reduced x R)))

module _ {N : ℕ} {rows columns : List ℕ} (G : Grown N rows (length rows) columns) where
  pub grown_independent : first_dependent rows ≡ length rows
  unfolding first_dependent
  grown_independent = first_is (is_dependent rows) (length rows) (length rows)
      (record { most = omega arith; hit = λ k. absurd (omega arith); miss = G.none })

  pub grown_spans : Spans N rows columns
  grown_spans = subst (λ rs. Spans N rs columns) (take-length rows) G.spans

-- ---- rows in reduced form

module _ {N : ℕ} {rows columns : List ℕ} (E : Echelon N rows columns) (narrow : Narrow N rows) where
  -- 2 ^ k sums: number i is the sum of the rows that the bits of i choose
  pub echelon_sums : sums rows ≡ each (sum_of rows) (2 ^ length rows)
  echelon_sums = spans_sums E.spans narrow ∙ ap (λ rs. each (sum_of rs) (choices rs)) (sym E.are)

  pub echelon_length : length (sums rows) ≡ 2 ^ length rows
  echelon_length = ap length echelon_sums ∙ length_run (sum_of rows) 0 (2 ^ length rows)
