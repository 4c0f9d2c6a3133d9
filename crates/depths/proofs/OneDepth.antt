-- One depth. The rows that the passes leave are the run starts and the first words with one ending, on the words of the table. So the test
-- is true exactly if the table is rectangular at the depth, and then the numbers are those of the vertices, and the count is how many there
-- are.
use mathlib.Core.Path.{◌≡◌, refl, sym, ap, subst, ◌∙◌}
use mathlib.Core.Bool.{true, false}
use mathlib.Core.Logic.{◌↔◌}
use mathlib.Core.List.{List}
use Prim.Native.Nat.{ℕ, ◌*◌, ◌≤◌, ◌<◌}
use native.Mathlib.Omega.{arith}
use Rattle.std.specs.Prelude.{Some, None}
use lib.ListN.{length}
use lib.Dec.{eqb}
use Rattle.trellis.specs.Word.{Word, Table, RectangularAt}
use Rattle.trellis.specs.Own.{vertex_of, vertex_count}
use Rattle.runs.specs.Inner.Runs.{first_like, below, number_of, Cut, Tells, first_word_by}
use Rattle.runs.specs.Inner.Cuts.{beginning_at, ending_at, step_key}
use Rattle.runs.proofs.FirstLike.{like_le}
use Rattle.runs.proofs.Counting.{below_cong}
use Rattle.runs.proofs.Agreement.{first_le_lem, first_start, first_twice}
use Rattle.runs.proofs.Cuts.{cut, rectangle_of}
use Rattle.runs.proofs.Keys.{tells_step}
use Rattle.runs.proofs.Vertices.{rectangular_iff, vertex_is, count_is_lem}
use Rattle.depth_runs.specs.Inner.Rows.{at, Row, RowAt, joins, run_start, row_key, first_word_in, agrees_test, runs_agree_test, Backward, ToNumber}
use Rattle.depth_runs.specs.Inner.Rows.{VerticesNumbered}
use Rattle.depth_runs.proofs.Agreement.{agrees_iff, agrees_cong, all_iff}
use Rattle.depths.specs.Inner.Words.{words}
use Rattle.depths.specs.Inner.Merge.{DepthAsked, DepthDone}
use Rattle.depths.proofs.Words.{held_length}
use Rattle.depths.proofs.Starts.{starts_are}
use Rattle.depths.proofs.Firsts.{firsts_are, ends_now}

-- M is what was asked, A and B are what the passes left
module _ {n t : ℕ} {roots labels goals old map row starts : List ℕ} (M : DepthAsked n t roots labels goals old map)
    (A : Row (length roots) (run_start (joins roots labels n t)) starts)
    (B : Row (length labels) (first_like (row_key labels n t old)) row) where
  abbrev table : List Word
  table = words roots labels goals

  abbrev told : ℕ → ℕ
  told i = step_key n table t (at old) i

  abbrev start : ℕ → ℕ
  start i = first_like (beginning_at n table t) i

  abbrev first_word : ℕ → ℕ
  first_word i = first_word_by (beginning_at n table t) told i

  G : Table n table
  G = M.held.table

  le : t ≤ n
  le = omega (arith, M.deep)

  size : length table ≡ length roots
  size = held_length M.held

  C : Cut (length table) (beginning_at n table t) (ending_at n table t)
  C = cut G t le

  K : Tells (length table) (ending_at n table t) told
  K = tells_step G t M.deep (at old) M.ends.tells

  -- ---- the rows

  start_is : (i : ℕ) → i < length table → at starts i ≡ start i
  start_is = starts_are M.held t le A

  first_is : (i : ℕ) → i < length table → at row i ≡ first_like told i
  first_is = firsts_are M.held t M.deep M.ends B

  word_is : (i : ℕ) → i < length table → first_word_in starts row i ≡ first_word i
  word_is i h = ap (at starts) (first_is i h) ∙ start_is (first_like told i) (omega (arith, like_le told i))

  pub depth_backward : Backward (length roots) starts row
  depth_backward = record {
    start_le = λ i h. omega (arith, start_is i (omega (arith, size)), like_le (beginning_at n table t) i);
    first_le = λ i h. omega (arith, first_is i (omega (arith, size)), like_le told i);
    word_le = λ i h. omega
        (arith, word_is i (omega (arith, size)), first_start C K i (omega (arith, size)), start_is i (omega (arith, size)));
  }

  -- ---- the test

  test_is : (i : ℕ) → i < length table
      → agrees_test (length table) (at starts) (first_word_in starts row) i ≡ agrees_test (length table) start first_word i
  test_is i h =
      agrees_cong (length table) (at starts) start start_is (first_word_in starts row) first_word word_is i h
      (like_le (beginning_at n table t) i) (first_start C K i h)

  passes : RectangularAt n t table ↔ (runs_agree_test (length table) starts row ≡ true)
  unfolding runs_agree_test
  passes =
      let a = all_iff (agrees_test (length table) (at starts) (first_word_in starts row)) (length table) in
      let r = rectangular_iff G t M.inner M.deep K in (
        λ R. a.1 (λ i h. test_is i h ∙ (agrees_iff (length table) start first_word i).1 (r.0 R i h)),
        λ e. r.1 (λ i h. (agrees_iff (length table) start first_word i).0 (sym (test_is i h) ∙ a.0 e i h)),
      )

  rectangular : true ≡ runs_agree_test (length roots) starts row → RectangularAt n t table
  rectangular e = passes.1 (ap (λ k. runs_agree_test k starts row) size ∙ sym e)

  -- ---- the ways that a depth ends

  pub depth_refused : false ≡ runs_agree_test (length roots) starts row → DepthDone n t table row map map None
  depth_refused e = record { ends = ends_now M.held t M.deep M.ends B; outcome = record { fails = fail; kept = refl } }
    where
      fail : RectangularAt n t table → ⊥
      fail R =
          let q : true ≡ false = sym (passes.0 R) ∙ ap (λ k. runs_agree_test k starts row) size ∙ sym e in
          let z : ◌≡◌ {A = ℕ} 0 1 = cc in omega arith

  pub depth_to_number : true ≡ runs_agree_test (length roots) starts row → ToNumber (length roots) (t * length roots) starts row map
  depth_to_number e = record {
    few = M.held.few;
    room = M.room;
    backward = depth_backward;
    twice = λ i h. twice i (omega (arith, size));
  }
    where
      twice : (i : ℕ) → i < length (words roots labels goals) → first_word_in starts row (first_word_in starts row i) ≡ first_word_in starts row i
      twice i h =
          ap (first_word_in starts row) (word_is i h) ∙ word_is (first_word i) (omega (arith, first_le_lem C K i))
          ∙ first_twice C K (rectangle_of G t le (rectangular e)) i h ∙ sym (word_is i h)

  module _ (R : RectangularAt n t table) where
    number_is_lem : (i : ℕ) → i < length table → number_of (first_word_in starts row) i ≡ vertex_of n table t i
    unfolding number_of
    number_is_lem i h =
        ap (below (λ j. eqb (first_word_in starts row j) j)) (word_is i h)
        ∙ below_cong (λ j. eqb (first_word_in starts row j) j) (λ j. eqb (first_word j) j) (first_word i)
        (λ j l. ap (λ x. eqb x j) (word_is j (omega (arith, first_le_lem C K i))))
        ∙ sym (vertex_is G t M.inner M.deep K R i h)

    all_counted : below (λ j. eqb (first_word_in starts row j) j) (length table) ≡ vertex_count n table t
    all_counted =
        below_cong (λ j. eqb (first_word_in starts row j) j) (λ j. eqb (first_word j) j) (length table)
        (λ j l. ap (λ x. eqb x j) (word_is j l))
        ∙ sym (count_is_lem G t M.inner M.deep K R)

  pub depth_merged : {new : List ℕ} {count : ℕ} → true ≡ runs_agree_test (length roots) starts row
      → VerticesNumbered (t * length roots) (length roots) (first_word_in starts row) map new count
      → DepthDone n t table row map new (Some count)
  depth_merged {new} {count} e N =
      let D = subst (λ k. RowAt (t * k) k (number_of (first_word_in starts row)) map new) (sym size) N.row in
      record {
        ends = ends_now M.held t M.deep M.ends B;
        outcome = record {
          rectangular = rectangular e;
          row = record { is = λ i h. D.is i h ∙ number_is_lem (rectangular e) i h; before = D.before; behind = D.behind; len = D.len };
          counted = N.counted ∙ ap (below (λ j. eqb (first_word_in starts row j) j)) (sym size) ∙ all_counted (rectangular e);
        };
      }
