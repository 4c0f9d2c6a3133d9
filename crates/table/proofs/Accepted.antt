-- What is known of an accepted file: no check finds anything (`Passes`), so its numbers and words are what document 01 asks for (`Good`).
-- A refusal has a number other than 0, so a file with number 0 got past each check; a search that finds nothing has passed over every
-- number; and words of which each is above the one before it ascend pairwise, because the order is transitive.
use mathlib.Core.Path.{◌≡◌, refl, sym, ap, subst}
use mathlib.Core.Bool.{Bool, true, false, cond, not}
use mathlib.Core.List.{List}
use Prim.Native.Nat.{ℕ, suc, ◌+◌, ◌*◌, ◌^◌, ◌≤◌, ◌<◌}
use native.Mathlib.Omega.{arith}
use lib.Dec.{ltb, eqb}
use lib.ListN.{length}
use borrow.Author.Tests.{ltb-true, ltb-false, le-ltb, eqb-true, not-false}
use Rattle.trellis.specs.Bounds.{most_states, most_words, most_symbols, least_q, most_q}
use Rattle.trellis.specs.Lists.{◌∈◌}
use Rattle.trellis.specs.Label.{is_label}
use Rattle.trellis.specs.Word.{Word, word, word_at, Before, Table}
use Rattle.trellis.specs.Outcome.{bad_length, bad_size, bad_word, not_above}
use Rattle.trellis.proofs.Bools.{holds, neither, left_true}
use Rattle.trellis.proofs.Lists.{each_at, of_each}
use Rattle.trellis.proofs.ThreeNumbers.{lower_yes}
use Rattle.trellis.proofs.Words.{ascends_all}
use Rattle.fields.specs.Fields.{byte_at, word_count, file_word, file_words, length_bad}
use Rattle.table.specs.File.{outside, size_outside, word_outside, word_bad, is_before, order_bad, first_size, first_bad, first_not_above}
use Rattle.table.specs.File.{TableFile, refused, accepted, table_file, file_outcome}
use Rattle.table.specs.Inner.Good.{Passes, GoodFile}
use Rattle.table.proofs.Search.{none_passes, nothing_found}
use Rattle.table.proofs.Checks.{words_length}

-- ---- tests taken apart

inside : (x low high : ℕ) → outside x low high ≡ false → (low ≤ x) × (x ≤ high)
unfolding outside
inside x low high e = let p = neither (ltb x low) (ltb high x) e in (ltb-false x low p.0, ltb-false high x p.1)

word_inside : (q n S : ℕ) (w : Word) → word_outside q n S w ≡ false → (w.root < S) × (w.goal < S) × (is_label q n w.label ≡ true)
unfolding word_outside
word_inside q n S w e =
    let a = neither (not (ltb w.root S)) _ e in
    let b = neither (not (ltb w.goal S)) _ a.1 in
    (ltb-true _ _ (not-false _ a.0), ltb-true _ _ (not-false _ b.0), not-false _ b.1)

label_fits : (q n x : ℕ) → is_label q n x ≡ true → x < 4 ^ n
unfolding is_label
label_fits q n x e = ltb-true _ _ (left_true (ltb x (4 ^ n)) _ e)

-- ---- a file that passes is accepted

-- each refusal has a number other than 0, so where the number is 0 no test was true
none_refused : (a b d f : Bool) (file_length place bad low : ℕ) (t : TableFile)
    → (file_outcome (cond a (refused (bad_length file_length)) (cond b (refused (bad_size place))
    (cond d (refused (bad_word bad)) (cond f (refused (not_above low)) t))))).number ≡ 0
    → (a ≡ false) × (b ≡ false) × (d ≡ false) × (f ≡ false)
none_refused true b d f l p x y t e = absurd (omega arith)
none_refused false true d f l p x y t e = absurd (omega arith)
none_refused false false true f l p x y t e = absurd (omega arith)
none_refused false false false true l p x y t e = absurd (omega arith)
none_refused false false false false l p x y t e = (refl, refl, refl, refl)

module _ (file : List ℕ) where
  pub zero_passes : (file_outcome (table_file file)).number ≡ 0 → Passes file
  unfolding table_file
  zero_passes e =
      let count = word_count file in
      let no = none_refused (length_bad file) (ltb (first_size file) 4) (ltb (first_bad file) count)
      (ltb (first_not_above file) count) _ _ _ _ _ e in
      record {
        length_right = no.0;
        sizes_inside = none_passes (size_outside file) 4 (ltb-false _ _ no.1);
        words_right = none_passes (word_bad file) (word_count file) (ltb-false _ _ no.2);
        words_ascend = none_passes (order_bad file) (word_count file) (ltb-false _ _ no.3);
      }

  pub passes_accepted : Passes file → table_file file ≡ accepted (byte_at file 0) (byte_at file 1) (byte_at file 2) (file_words file)
  unfolding table_file
  passes_accepted p =
      let a : 4 ≤ first_size file = omega (arith, nothing_found (size_outside file) 4 p.sizes_inside) in
      let b : word_count file ≤ first_bad file = omega (arith, nothing_found (word_bad file) (word_count file) p.words_right) in
      let d : word_count file ≤ first_not_above file = omega (arith, nothing_found (order_bad file) (word_count file) p.words_ascend) in
      simp (p.length_right, le-ltb _ _ a, le-ltb _ _ b, le-ltb _ _ d)

  -- ---- what a file that passes is

  -- word i of the list is word i of the file
  pub word_at_is : (i : ℕ) → i < word_count file → word_at (file_words file) i ≡ file_word file i
  unfolding file_words
  word_at_is i h = each_at (file_word file) (word_count file) i (word 0 0 0) h

  -- what holds of each word of the file holds of each word in the list
  of_words : (P : Word → Type 0) → ((i : ℕ) → i < word_count file → P (file_word file i)) → (w : Word) → w ∈ file_words file → P w
  unfolding file_words
  of_words P h w m = let f = of_each (file_word file) (word_count file) w m in subst P (sym f.is) (h f.at f.below)

  module _ (p : Passes file) where
    length_right_lem : (5 ≤ length file) × (length file ≡ 5 + 4 * word_count file)
    unfolding length_bad
    length_right_lem =
        let no = neither (ltb (length file) 5) (not (eqb (length file) (5 + 4 * word_count file))) p.length_right in
        (ltb-false _ _ no.0, eqb-true _ _ (not-false _ no.1))

    q_inside : (least_q ≤ byte_at file 0) × (byte_at file 0 ≤ 4)
    unfolding size_outside
    q_inside = inside (byte_at file 0) least_q most_q (p.sizes_inside 0 (omega arith))

    n_inside : (1 ≤ byte_at file 1) × (byte_at file 1 ≤ most_symbols)
    unfolding size_outside
    n_inside = inside (byte_at file 1) 1 most_symbols (p.sizes_inside 1 (omega arith))

    states_inside : (1 ≤ byte_at file 2) × (byte_at file 2 ≤ most_states)
    unfolding size_outside
    states_inside = inside (byte_at file 2) 1 most_states (p.sizes_inside 2 (omega arith))

    count_inside : (1 ≤ word_count file) × (word_count file ≤ most_words)
    unfolding size_outside
    count_inside = inside (word_count file) 1 most_words (p.sizes_inside 3 (omega arith))

    right_at : (i : ℕ) → i < word_count file → ((file_word file i).root < byte_at file 2) × ((file_word file i).goal < byte_at file 2)
        × (is_label (byte_at file 0) (byte_at file 1) (file_word file i).label ≡ true)
    unfolding word_bad
    right_at i h = word_inside _ _ _ (file_word file i) (p.words_right i h)

    above_at : (i : ℕ) → suc i < word_count file → Before (file_word file i) (file_word file (suc i))
    unfolding order_bad
    above_at i h =
        let e : is_before (file_word file i) (file_word file (suc i)) ≡ true = not-false _ (p.words_ascend (suc i) h) in
        lower_yes _ _ _ _ _ _ (holds e)

    is_table_lem : Table (byte_at file 1) (file_words file)
    is_table_lem =
        let l = words_length file in
        record {
          some = n_inside.0;
          fits = of_words (λ w. w.label < 4 ^ byte_at file 1) (λ i h. label_fits _ _ _ (right_at i h).2);
          ascends = ascends_all (file_words file) (λ i h.
              let a : i < word_count file = omega arith in
              let b : suc i < word_count file = omega arith in
              rw (word_at_is i a, word_at_is (suc i) b) (above_at i b));
        }

    pub passes_good : GoodFile file (byte_at file 0) (byte_at file 1) (byte_at file 2) (file_words file)
    passes_good =
        let l = words_length file in
        let e = length_right_lem in
        let q = q_inside in
        let n = n_inside in
        let s = states_inside in
        let c = count_inside in
        record {
          q_is = refl;
          n_is = refl;
          states_is = refl;
          words_are = refl;
          count_is = l;
          length_is = omega arith;
          q_from = q.0;
          q_to = q.1;
          n_from = n.0;
          n_to = n.1;
          states_from = s.0;
          states_to = s.1;
          count_from = omega arith;
          count_to = omega arith;
          roots_below = of_words (λ w. w.root < byte_at file 2) (λ i h. (right_at i h).0);
          goals_below = of_words (λ w. w.goal < byte_at file 2) (λ i h. (right_at i h).1);
          are_labels = of_words (λ w. is_label (byte_at file 0) (byte_at file 1) w.label ≡ true) (λ i h. (right_at i h).2);
          table = is_table_lem;
        }

  pub accepted_passes : {q n S : ℕ} {words : List Word} → table_file file ≡ accepted q n S words → Passes file
  accepted_passes e = zero_passes (ap (λ t. (file_outcome t).number) e)

  pub accepted_good : {q n S : ℕ} {words : List Word} → table_file file ≡ accepted q n S words → GoodFile file q n S words
  accepted_good {q} {n} {S} {words} e =
      let p = accepted_passes e in
      let x = passes_accepted p in
      let a : q ≡ byte_at file 0 = cc in
      let b : n ≡ byte_at file 1 = cc in
      let d : S ≡ byte_at file 2 = cc in
      let f : words ≡ file_words file = cc in
      rw (a, b, d, f) (passes_good p)

  -- word i of an accepted table, as the code reads it
  pub good_at : {q n S : ℕ} {words : List Word} → GoodFile file q n S words → (i : ℕ) → i < length words → word_at words i ≡ file_word file i
  good_at g i h = let l = g.count_is in let k : i < word_count file = omega arith in rw g.words_are (word_at_is i k)
