-- What the rows say of the words. Words have one run start exactly if they begin alike, and one number in the row of first words exactly if
-- they end alike; and the run of k has the ending of j exactly if the joined word is in the table. So the rows' test is the definition's.
use mathlib.Core.Path.{◌≡◌, sym, ap, ap₂, subst, ◌∙◌}
use mathlib.Core.Bool.{◌&&◌, not}
use mathlib.Core.Logic.{◌↔◌}
use mathlib.Core.List.{List}
use Prim.Native.Nat.{ℕ, suc, ◌-◌, ◌≤◌, ◌<◌}
use native.Mathlib.Omega.{arith}
use Rattle.std.specs.Prelude.{Option}
use lib.ListN.{length}
use Rattle.trellis.specs.Lists.{is_in}
use Rattle.trellis.specs.Word.{Word, word_at, same_word, Table, joined}
use Rattle.trellis.specs.Witness.{refutes, witness_at}
use Rattle.trellis.proofs.Bools.{holds, is_true, same_test}
use Rattle.trellis.proofs.Lists.{in_yes, in_of}
use Rattle.trellis.proofs.Words.{same_yes, same_self}
use Rattle.runs.specs.Inner.Runs.{first_like, Tells}
use Rattle.runs.specs.Inner.Cuts.{beginning_at, ending_at, step_key}
use Rattle.runs.proofs.FirstLike.{eqb_iff, like_le, like_is, like_eq, like_twice}
use Rattle.runs.proofs.Runs.{start_mono}
use Rattle.runs.proofs.Cuts.{cut, begins_eq, ends_eq, shared_joined, joined_shared}
use Rattle.depth_runs.specs.Inner.Rows.{at, Row, Small, joins, run_start, row_key}
use Rattle.depths.specs.Inner.Words.{words}
use Rattle.depths.specs.Inner.Merge.{EndingRow}
use Rattle.depths.proofs.Words.{held_length}
use Rattle.depths.proofs.Starts.{starts_are}
use Rattle.depths.proofs.Firsts.{row_small, firsts_are, ends_now}
use Rattle.lacking.specs.Inner.Search.{as_witness, FirstIn}
use Rattle.lacking.specs.Inner.Rows.{InnerDepth, FirstRow, SearchRows, has_ending, refutes_in}
use Rattle.lacking.specs.declared.Triple.{Triple}
use Rattle.lacking.proofs.Search.{first_cong, first_is}
use Rattle.lacking.proofs.Endings.{ending_yes, ending_of}

-- ---- the rows' test is the definition's

module _ {n : ℕ} {table : List Word} (G : Table n table) (t : ℕ) (le : t ≤ n) (starts firsts : List ℕ)
    (start : (i : ℕ) → i < length table → at starts i ≡ first_like (beginning_at n table t) i)
    (D : Tells (length table) (ending_at n table t) (at firsts)) where
  starts_same : (i j : ℕ) → i < length table → j < length table → (at starts i ≡ at starts j)
      ↔ (beginning_at n table t i ≡ beginning_at n table t j)
  starts_same i j a b = (
    λ e. sym (like_is (beginning_at n table t) i) ∙ ap (beginning_at n table t) (sym (start i a) ∙ e ∙ start j b)
        ∙ like_is (beginning_at n table t) j,
    λ e. start i a ∙ like_eq (beginning_at n table t) i j e ∙ sym (start j b),
  )

  has_is : (k j : ℕ) → k < length table → j < length table
      → has_ending starts firsts (length table) k j ≡ is_in same_word (joined n t (word_at table k) (word_at table j)) table
  has_is k j a b = same_test (has_ending starts firsts (length table) k j)
      (is_in same_word (joined n t (word_at table k) (word_at table j)) table)
      (λ u.
      let E = ending_of (is_true (has_ending starts firsts (length table) k j) u) in
      in_of same_word same_yes same_self _ table (shared_joined G t le k j a b (record {
        at = E.place;
        inside = E.below;
        begins = (starts_same E.place k E.below a).0 E.begins;
        ends = (D E.place j E.below b).0 E.ends;
      })))
      (λ u.
      let S = joined_shared G t le k j (in_yes same_word same_yes same_self _ table u) in
      holds (ending_yes (record {
        place = S.at;
        below = S.inside;
        begins = (starts_same S.at k S.inside a).1 S.begins;
        ends = (D S.at j S.inside b).1 S.ends;
      })))

  refutes_is : (i j k : ℕ) → i < length table → j < length table → k < length table
      → refutes_in starts firsts (length table) i j k ≡ refutes n table t i j k
  unfolding refutes_in refutes
  refutes_is i j k a b c =
      ap₂ (λ x y. x && y)
      (eqb_iff (at starts i) (at starts j) (beginning_at n table t i) (beginning_at n table t j) (starts_same i j a b)
      ∙ sym (begins_eq G t le i j a b))
      (ap₂ (λ x y. x && not y)
      (eqb_iff (at firsts i) (at firsts k) (ending_at n table t i) (ending_at n table t k) (D i k a c) ∙ sym (ends_eq G t le i k a c))
      (has_is k j c b))

-- ---- the rows of the search, from the passes

first_row : (W : ℕ) (key : ℕ → ℕ) (row : List ℕ) → ((i : ℕ) → i < W → at row i ≡ first_like key i) → FirstRow W row
first_row W key row h = record {
  le = λ i l. omega (arith, h i l, like_le key i);
  own = λ i l. ap (at row) (h i l) ∙ h (first_like key i) (omega (arith, like_le key i)) ∙ like_twice key i ∙ sym (h i l);
}

pub record InRows (n t : ℕ) (roots labels goals row : List ℕ) (u : ℕ) : Type 0 where
  pub from : t ≤ u
  pub le : u ≤ n
  pub ends : EndingRow n (words roots labels goals) u row
  pub firsts : u < n → FirstRow (length (words roots labels goals)) row

pub rows_none : {n t : ℕ} {roots labels goals row : List ℕ} → InnerDepth n t roots labels goals
    → EndingRow n (words roots labels goals) n row
    → InRows n t roots labels goals row n
rows_none Q E = record { from = omega (arith, Q.deep); le = omega arith; ends = E; firsts = λ h. absurd (omega arith) }

pub rows_small : {n t : ℕ} {roots labels goals row : List ℕ} {u : ℕ} → InnerDepth n t roots labels goals
    → InRows n t roots labels goals row u → Small (length labels) row
rows_small Q c = row_small Q.held c.ends

pub rows_more : {n t : ℕ} {roots labels goals row new : List ℕ} {u : ℕ} → InnerDepth n t roots labels goals
    → InRows n t roots labels goals row u
    → Row (length labels) (first_like (row_key labels n (u - 1) row)) new → t < u → InRows n t roots labels goals new (u - 1)
rows_more {n} {t} {roots} {labels} {goals} {row} {new} {u} Q c B h =
    let e : u ≡ suc (u - 1) = omega arith in
    let d : u - 1 < n = omega (arith, c.le) in
    let E = subst (λ k. EndingRow n (words roots labels goals) k row) e c.ends in
    record {
      from = omega arith;
      le = omega (arith, c.le);
      ends = ends_now Q.held (u - 1) d E B;
      firsts = λ l. first_row (length (words roots labels goals)) (step_key n (words roots labels goals) (u - 1) (at row)) new
          (firsts_are Q.held (u - 1) d E B);
    }

module _ {n t : ℕ} {roots labels goals starts : List ℕ} (Q : InnerDepth n t roots labels goals)
    (A : Row (length roots) (run_start (joins roots labels n t)) starts) where
  abbrev table : List Word
  table = words roots labels goals

  le : t ≤ n
  le = omega (arith, Q.deep)

  size : length table ≡ length roots
  size = held_length Q.held

  start_is : (i : ℕ) → i < length table → at starts i ≡ first_like (beginning_at n table t) i
  start_is = starts_are Q.held t le A

  module _ {row : List ℕ} {u : ℕ} (c : InRows n t roots labels goals row u) (h : u ≤ t) where
    pub rows_are : SearchRows (length roots) starts row
    rows_are = subst (λ w. SearchRows w starts row) size (record {
      few = omega (arith, size, Q.held.few);
      runs = first_row (length (words roots labels goals)) (beginning_at n (words roots labels goals) t) starts start_is;
      rises = λ i j a b. omega (arith, start_is i (omega arith), start_is j b, start_mono (cut Q.held.table t le) i j a b);
      endings = c.firsts (omega (arith, Q.deep));
    })

    -- the first triple that refutes, by the rows, is the witness of the definition
    pub rows_witness : (r : Option Triple) → FirstIn (refutes_in starts row (length roots)) (length roots) r → as_witness t r ≡ witness_at n table t
    rows_witness r F =
        let e : u ≡ t = omega (arith, c.from) in
        let D = subst (λ k. EndingRow n table k row) e c.ends in
        first_is n table t r (first_cong (refutes_in starts row (length table)) (refutes n table t) (length table)
        (refutes_is Q.held.table t le starts row start_is D.tells) r
        (subst (λ w. FirstIn (refutes_in starts row w) w r) (sym size) F))
