-- A reader that starts at word 0 finds every word of a file of the right length, once and in order, and then the end.
-- After k readings it stands at k as long as there are words, because each reading goes on by one; from the word count on it stays there.
use mathlib.Core.Path.{◌≡◌, refl, sym, ap, ◌∙◌}
use mathlib.Core.Bool.{Bool, true, false, cond}
use mathlib.Core.List.{List}
use Prim.Native.Nat.{ℕ, zero, suc, ◌+◌, ◌-◌, ◌≤◌, ◌<◌}
use native.Mathlib.Omega.{arith}
use native.Mathlib.Nat.{le_refl}
use lib.Dec.{ltb}
use borrow.Author.Tests.{ltb-true, ltb-false}
use Rattle.std.specs.Prelude.{Some, None}
use Rattle.std.proofs.lemmas.Option.{none-some}
use Rattle.fields.specs.Fields.{word_count, file_word, length_bad}
use Rattle.fields.specs.Inner.Answer.{held_word, found_at}
use Rattle.fields.specs.Inner.ReadOn.{place_after, place_of, ReadsAll}
use Rattle.fields.specs.declared.Word.{Word}
use Rattle.fields.proofs.Reading.{nothing_past, here, stays_past, goes_on}

module _ (file : List ℕ) (right : length_bad file ≡ false) where
  place_within : (k : ℕ) → k ≤ word_count file → place_of file k ≡ k
  unfolding place_of
  place_within zero h = refl
  place_within (suc k) h =
      let e : k + 1 ≡ suc k = omega arith in
      ap (place_after file) (place_within k (omega arith)) ∙ sym (goes_on file (sym right) refl refl (omega arith)) ∙ e

  place_past : (k : ℕ) → word_count file ≤ k → place_of file k ≡ word_count file
  unfolding place_of
  place_past zero h = omega arith
  place_past (suc k) h = go (ltb k (word_count file)) refl (place_past k)
    where
      go : (b : Bool) → ltb k (word_count file) ≡ b → (word_count file ≤ k → place_of file k ≡ word_count file)
          → place_after file (place_of file k) ≡ word_count file
      go true e r =
          let l = ltb-true k (word_count file) e in
          ap (place_after file) (place_within k (omega arith)) ∙ sym (goes_on file (sym right) refl refl l) ∙ omega arith
      go false e r = ap (place_after file) (r (ltb-false k (word_count file) e)) ∙ sym (stays_past file (sym right) refl refl (le_refl _))

  pub reads_all : ReadsAll file
  reads_all = record {
    in_order = λ k h. ap (found_at file) (place_within k (omega arith)) ∙ sym (here file (sym right) refl refl h refl);
    at_end = λ k h. ap (found_at file) (place_past k h) ∙ sym (nothing_past file (sym right) refl refl (le_refl _));
  }

-- where a reader finds a word, fewer are left behind it
module _ (file : List ℕ) where
  pub fewer_left : (i p : ℕ) (w : Word) → Some w ≡ found_at file i → p ≡ place_after file i → word_count file - p < word_count file - i
  unfolding found_at place_after
  fewer_left i p w e f = go (length_bad file) (ltb i (word_count file)) refl e f
    where
      go : (a b : Bool) → ltb i (word_count file) ≡ b → Some w ≡ cond a None (cond b (Some (held_word (file_word file i))) None)
          → p ≡ cond a i (cond b (i + 1) i) → word_count file - p < word_count file - i
      go true b q e f = absurd (none-some w (sym e))
      go false false q e f = absurd (none-some w (sym e))
      go false true q e f = let l = ltb-true i (word_count file) q in omega (arith, f, l)
