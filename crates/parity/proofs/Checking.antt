-- Rows taken up one by one. Without rows the columns are the powers of 2. A row of syndrome 0 is a sum of those before it and changes
-- nothing; any other is added by the highest bit of its syndrome. So the columns are the check of the rows taken up so far; and where it
-- stops at the first row of syndrome 0, none before it was a sum of those before it.
use mathlib.Core.Path.{◌≡◌, refl, sym, ap, subst, ◌∙◌}
use mathlib.Core.List.{List, [], ◌∷◌, ◌++◌}
use Prim.Native.Nat.{ℕ, suc, ◌+◌, ◌^◌, ◌≤◌, ◌<◌}
use native.Mathlib.Omega.{arith}
use native.Mathlib.Numerals.{add-one}
use lib.ListN.{length, get_or, take}
use lib.Seq.{take-suc, take-length}
use Rattle.trellis.specs.Lists.{run}
use Rattle.trellis.proofs.Lists.{each_at}
use Rattle.rows.specs.Sums.{sum_of, first_dependent}
use Rattle.rows.specs.Inner.Reduced.{no_rows, add_row, Narrow, Spans}
use Rattle.rows.specs.Inner.Growing.{Grown}
use Rattle.rows.proofs.Growing.{spans_none, spans_same, spans_more, grown_none, grown_next, grown_stop, grown_independent}
use Rattle.parity.specs.Inner.Steps.{TakenUp, same, more, Checked}

-- the powers of 2 as the code has them
abbrev pub powers : List ℕ
powers = 1 ∷ 2 ∷ 4 ∷ 8 ∷ 16 ∷ 32 ∷ 64 ∷ 128 ∷ 256 ∷ 512 ∷ 1024 ∷ 2048 ∷ 4096 ∷ 8192 ∷ 16384 ∷ 32768 ∷ []

powers_are : no_rows 16 ≡ powers
unfolding no_rows run
powers_are = refl

pub power_at : (m : ℕ) → m < 16 → get_or powers m 0 ≡ 2 ^ m
unfolding no_rows
power_at m h = ap (λ l. get_or l m 0) (sym powers_are) ∙ each_at (λ k. 2 ^ k) 16 m 0 h

-- ---- up to the first row that is a sum of those before it

pub check_start : (rows : List ℕ) → Grown 16 rows 0 powers
check_start rows = subst (λ l. Grown 16 rows 0 l) powers_are (grown_none 16 rows)

module _ {rows columns : List ℕ} {j z : ℕ} (G : Grown 16 rows j columns) (narrow : Narrow 16 rows) (h : j < length rows)
    (e : z ≡ sum_of columns (get_or rows j 0)) where
  pub check_turn : {new : List ℕ} → (z ≡ 0 → ⊥) → TakenUp z columns new → Grown 16 rows (j + 1) new
  check_turn d (same q u) = absurd (d q)
  check_turn {new} d (more p top u) = subst (λ l. Grown 16 rows (j + 1) l) (ap (λ k. add_row p k columns) (sym e) ∙ sym u)
      (subst (λ k. Grown 16 rows k (add_row p (sum_of columns (get_or rows j 0)) columns)) (sym (add-one j))
      (grown_next G h (narrow j h) p top.inside (subst (λ k. 2 ^ p ≤ k) e top.least) (subst (λ k. k < 2 ^ suc p) e top.most)))

  pub check_stop : z ≡ 0 → (j < length rows) × (j ≡ first_dependent rows)
  check_stop q = (h, sym (grown_stop G h (narrow j h) (sym e ∙ q)))

pub check_end : {rows columns : List ℕ} {j : ℕ} → Grown 16 rows j columns → j ≤ length rows → length rows ≤ j
    → Checked rows columns (length rows)
check_end {rows} {columns} {j} G h k =
    let e : j ≡ length rows = omega arith in
    let H : Grown 16 rows (length rows) columns = subst (λ i. Grown 16 rows i columns) e G in
    record { is = sym (grown_independent H); sixteen = G.spans.checks.wide; grown = λ q. H }

-- ---- all rows

-- the first j rows are taken up
pub record Taken (rows : List ℕ) (j : ℕ) (columns : List ℕ) : Type 0 where
  pub spans : Spans 16 (take j rows) columns
  pub most : j ≤ length rows

pub taken_none : (rows : List ℕ) → Taken rows 0 powers
taken_none rows = record { spans = subst (λ l. Spans 16 [] l) powers_are (spans_none 16); most = omega arith }

pub taken_next : {rows columns new : List ℕ} {j z : ℕ} → Taken rows j columns → Narrow 16 rows → j < length rows
    → z ≡ sum_of columns (get_or rows j 0) → TakenUp z columns new → Taken rows (j + 1) new
taken_next {rows} {columns} {new} {j} {z} S narrow h e T = record {
  spans = subst (λ l. Spans 16 l new) (sym (ap (λ k. take k rows) (add-one j) ∙ take-suc rows j 0 h)) (go T);
  most = omega arith;
}
  where
    r : ℕ
    r = get_or rows j 0

    go : TakenUp z columns new → Spans 16 (take j rows ++ (r ∷ [])) new
    go (same q u) = subst (λ l. Spans 16 (take j rows ++ (r ∷ [])) l) (sym u) (spans_same S.spans r (narrow j h) (sym e ∙ q))
    go (more p top u) = subst (λ l. Spans 16 (take j rows ++ (r ∷ [])) l) (ap (λ k. add_row p k columns) (sym e) ∙ sym u)
        (spans_more S.spans r (narrow j h) p top.inside (subst (λ k. 2 ^ p ≤ k) e top.least)
        (subst (λ k. k < 2 ^ suc p) e top.most))

pub taken_all : {rows columns : List ℕ} {j : ℕ} → Taken rows j columns → length rows ≤ j → Spans 16 rows columns
taken_all {rows} {columns} {j} S h =
    let e : j ≡ length rows = omega (arith, S.most) in
    subst (λ l. Spans 16 l columns) (ap (λ i. take i rows) e ∙ take-length rows) S.spans
