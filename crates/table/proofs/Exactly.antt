-- The other direction: a file that is as document 01 asks is accepted, and `check` answers with a table exactly if no check finds anything.
-- Each condition of `Good` makes the test of its check false. An answer other than a table has a number other than 0, and an accepted file
-- has 0.
use mathlib.Core.Path.{◌≡◌, refl, sym, ap, ◌∙◌}
use mathlib.Core.Bool.{true, false, not, true≢false, false≢true}
use mathlib.Core.Logic.{◌↔◌}
use mathlib.Core.List.{List, [], ◌∷◌}
use Prim.Native.Nat.{ℕ, zero, suc, ◌+◌, ◌*◌, ◌≤◌, ◌<◌}
use native.Mathlib.Omega.{arith}
use lib.ListN.{length}
use borrow.Author.Tests.{lt-ltb, le-ltb, eq-eqb}
use Rattle.trellis.specs.Bounds.{most_states, most_words, most_symbols, least_q, most_q}
use Rattle.trellis.specs.Lists.{◌∈◌}
use Rattle.trellis.specs.Label.{is_label}
use Rattle.trellis.specs.Word.{Word, word_at, Before}
use Rattle.trellis.proofs.Bools.{is_true}
use Rattle.trellis.proofs.Lists.{in_each}
use Rattle.trellis.proofs.ThreeNumbers.{lower_of}
use Rattle.fields.specs.Fields.{byte_at, word_count, file_word, file_words, length_bad}
use Rattle.table.specs.File.{outside, size_outside, word_outside, word_bad, is_before, order_bad, TableFile, refused, accepted, table_file}
use Rattle.table.specs.File.{file_outcome}
use Rattle.table.specs.Inner.Good.{Passes, GoodFile}
use Rattle.std.specs.Prelude.{Ok, Err, is_ok}
use Rattle.answers.specs.declared.merge.MergeRefusal.TheVariants as merge
use Rattle.table.specs.Inner.Answer.{Checked, checked_outcome}
use Rattle.table.proofs.Accepted.{passes_accepted, zero_passes, word_at_is}

not_outside : (x low high : ℕ) → low ≤ x → x ≤ high → outside x low high ≡ false
unfolding outside
not_outside x low high a b = simp (le-ltb _ _ a, le-ltb _ _ b)

not_word_outside : (q n S : ℕ) (w : Word) → w.root < S → w.goal < S → is_label q n w.label ≡ true → word_outside q n S w ≡ false
unfolding word_outside
not_word_outside q n S w a b e = simp (lt-ltb _ _ a, lt-ltb _ _ b, e)

-- ---- numbers of answers

zero_of : (r : Checked) → is_ok r ≡ true → (checked_outcome r).number ≡ 0
zero_of (Ok s) h = refl
zero_of (Err e) h = absurd (false≢true h)

ok_of_zero : (r : Checked) → (checked_outcome r).number ≡ 0 → is_ok r ≡ true
ok_of_zero (Ok s) h = refl
ok_of_zero (Err (merge.Length k)) h = absurd (omega arith)
ok_of_zero (Err (merge.Size k)) h = absurd (omega arith)
ok_of_zero (Err (merge.Word k)) h = absurd (omega arith)
ok_of_zero (Err (merge.Order k)) h = absurd (omega arith)
ok_of_zero (Err (merge.ShortMap k)) h = absurd (omega arith)
ok_of_zero (Err (merge.NotRectangular t i j k)) h = absurd (omega arith)
ok_of_zero (Err (merge.ShortSection k)) h = absurd (omega arith)

refused_by : (r : Checked) (t : TableFile) → checked_outcome r ≡ file_outcome t → is_ok r ≡ false → t ≡ refused (checked_outcome r)
refused_by r (refused o) e h = ap refused (sym e)
refused_by r (accepted q n S words) e h = absurd (true≢false (sym (ok_of_zero r (ap (λ o. o.number) e)) ∙ h))

-- ---- a good file passes

module _ (file : List ℕ) where
  good_length : length file ≡ 5 + 4 * word_count file → length_bad file ≡ false
  unfolding length_bad
  good_length e = let l : 5 ≤ length file = omega arith in simp (le-ltb _ _ l, eq-eqb _ _ e)

  in_words : (i : ℕ) → i < word_count file → file_word file i ∈ file_words file
  unfolding file_words
  in_words i h = in_each (file_word file) (word_count file) i (file_word file i) h refl

  -- the sizes and the words are those of the file, and nothing else is free in `Good`
  module _ (g : GoodFile file (byte_at file 0) (byte_at file 1) (byte_at file 2) (file_words file)) where
    good_sizes : (place : ℕ) → place < 4 → size_outside file place ≡ false
    unfolding size_outside
    good_sizes zero h = not_outside (byte_at file 0) least_q most_q g.q_from g.q_to
    good_sizes (suc zero) h = not_outside (byte_at file 1) 1 most_symbols g.n_from g.n_to
    good_sizes (suc (suc zero)) h = not_outside (byte_at file 2) 1 most_states g.states_from g.states_to
    good_sizes (suc (suc (suc zero))) h = let l = g.count_is in not_outside (word_count file) 1 most_words (omega arith) (omega arith)
    good_sizes (suc (suc (suc (suc place)))) h = absurd (omega arith)

    good_words : (i : ℕ) → i < word_count file → word_bad file i ≡ false
    unfolding word_bad
    good_words i h =
        let m = in_words i h in
        not_word_outside _ _ _ (file_word file i) (g.roots_below _ m) (g.goals_below _ m) (g.are_labels _ m)

    good_order : (i : ℕ) → i < word_count file → order_bad file i ≡ false
    unfolding order_bad
    good_order zero h = refl
    good_order (suc i) h =
        let l = g.count_is in
        let a : i < word_count file = omega arith in
        let b : Before (word_at (file_words file) i) (word_at (file_words file) (suc i)) =
        g.table.ascends i (suc i) (omega arith) (omega arith) in
        let d : Before (file_word file i) (file_word file (suc i)) = rw (word_at_is file i a, word_at_is file (suc i) h) at b in
        let e : is_before (file_word file i) (file_word file (suc i)) ≡ true = is_true _ (lower_of _ _ _ _ _ _ d) in
        ap not e

    same_passes : Passes file
    same_passes = record {
      length_right = let l = g.count_is in let e = g.length_is in good_length (omega arith);
      sizes_inside = good_sizes;
      words_right = good_words;
      words_ascend = good_order;
    }

  module _ {q n S : ℕ} {words : List Word} (g : GoodFile file q n S words) where
    same : GoodFile file (byte_at file 0) (byte_at file 1) (byte_at file 2) (file_words file)
    same = rw (g.q_is, g.n_is, g.states_is, g.words_are) at g

    pub good_passes : Passes file
    good_passes = same_passes same

    pub good_accepted : table_file file ≡ accepted q n S words
    good_accepted = rw (g.q_is, g.n_is, g.states_is, g.words_are) (passes_accepted file good_passes)

  -- ---- what the answer of `check` says

  pub checked_table : {q n S w : ℕ} → checked_outcome (Ok (record { q = q; n = n; states = S; words = w })) ≡ file_outcome (table_file file)
      → (table_file file ≡ accepted q n S (file_words file)) × (w ≡ length (file_words file))
  checked_table {q} {n} {S} {w} e =
      let x = passes_accepted file (zero_passes file (sym (ap (λ o. o.number) e))) in
      let v : (q ∷ n ∷ S ∷ w ∷ []) ≡ (byte_at file 0 ∷ byte_at file 1 ∷ byte_at file 2 ∷ length (file_words file) ∷ [])
      = ap (λ o. o.values) (e ∙ ap file_outcome x) in
      let a : q ≡ byte_at file 0 = cc in
      let b : n ≡ byte_at file 1 = cc in
      let d : S ≡ byte_at file 2 = cc in
      let f : w ≡ length (file_words file) = cc in
      (rw (a, b, d) x, f)

  pub checked_refused : (r : Checked) → checked_outcome r ≡ file_outcome (table_file file) → is_ok r ≡ false
      → table_file file ≡ refused (checked_outcome r)
  checked_refused r e h = refused_by r (table_file file) e h

  pub checked_exactly : (r : Checked) → checked_outcome r ≡ file_outcome (table_file file) → (is_ok r ≡ true) ↔ Passes file
  checked_exactly r e = (
    λ h. zero_passes file (sym (ap (λ o. o.number) e) ∙ zero_of r h),
    λ p. ok_of_zero r (ap (λ o. o.number) (e ∙ ap file_outcome (passes_accepted file p))),
  )
