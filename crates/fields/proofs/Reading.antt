-- How the code reads a file: each law takes what the calls on the way ensure, over plain variables, and gives the definition that is
-- promised. They hold because the code goes to the places that the definitions name.
use mathlib.Core.Path.{◌≡◌, sym, ◌∙◌}
use mathlib.Core.Bool.{Bool, true, false, not}
use mathlib.Core.List.{List}
use Prim.Native.Nat.{ℕ, ◌+◌, ◌*◌, ◌≤◌, ◌<◌}
use lib.ListN.{length}
use lib.Dec.{eqb}
use borrow.Author.Tests.{lt-ltb, le-ltb}
use Rattle.std.specs.Prelude.{Some, None}
use Rattle.fields.specs.Fields.{byte_at, two_bytes, word_count, file_word, length_bad}
use Rattle.fields.specs.Inner.Answer.{held_word, found_at}
use Rattle.fields.specs.Inner.ReadOn.{place_after}
use Rattle.fields.specs.declared.Word.{Word}

module _ (file : List ℕ) where
  pub count_is_lem : {low high w : ℕ} → low ≡ byte_at file 3 → high ≡ byte_at file 4 → w ≡ two_bytes low high → w ≡ word_count file
  unfolding word_count
  count_is_lem a b e = e ∙ simp (a, b)

  pub label_is : (i : ℕ) {w low high r : ℕ} → w ≡ word_count file → low ≡ byte_at file (5 + 2 * w + 2 * i)
      → high ≡ byte_at file (5 + 2 * w + 2 * i + 1)
      → r ≡ two_bytes low high → r ≡ (file_word file i).label
  unfolding file_word
  label_is i a x y e = e ∙ simp (x, y, a)

  pub short : length file < 5 → true ≡ length_bad file
  unfolding length_bad
  short h = simp (lt-ltb _ _ h)

  pub long : {w : ℕ} → 5 ≤ length file → w ≡ word_count file → not (eqb (length file) (5 + 4 * w)) ≡ length_bad file
  unfolding length_bad
  long h a = simp (le-ltb _ _ h, a)

  pub held_is : (i : ℕ) {r l g : ℕ} → r ≡ (file_word file i).root → l ≡ (file_word file i).label → g ≡ (file_word file i).goal
      → record { root = r; label = l; goal = g } ≡ held_word (file_word file i)
  held_is i a b d = simp (a, b, d)

  -- the ways out of `word_at`
  pub nothing_length : (i : ℕ) {b : Bool} → b ≡ length_bad file → b ≡ true → None ≡ found_at file i
  unfolding found_at
  nothing_length i a e = simp (sym a, e)

  pub nothing_past : {i w : ℕ} {b : Bool} → b ≡ length_bad file → b ≡ false → w ≡ word_count file → w ≤ i → None ≡ found_at file i
  unfolding found_at
  nothing_past a e x h = simp (sym a, e, sym x, le-ltb _ _ h)

  pub here : {i w : ℕ} {b : Bool} {k : Word} → b ≡ length_bad file → b ≡ false → w ≡ word_count file → i < w → k ≡ held_word (file_word file i)
      → Some k ≡ found_at file i
  unfolding found_at
  here a e x h f = simp (sym a, e, sym x, lt-ltb _ _ h, f)

  -- the ways out of `place_after`
  pub stays_length : (i : ℕ) {b : Bool} → b ≡ length_bad file → b ≡ true → i ≡ place_after file i
  unfolding place_after
  stays_length i a e = simp (sym a, e)

  pub stays_past : {i w : ℕ} {b : Bool} → b ≡ length_bad file → b ≡ false → w ≡ word_count file → w ≤ i → i ≡ place_after file i
  unfolding place_after
  stays_past a e x h = simp (sym a, e, sym x, le-ltb _ _ h)

  pub goes_on : {i w : ℕ} {b : Bool} → b ≡ length_bad file → b ≡ false → w ≡ word_count file → i < w → i + 1 ≡ place_after file i
  unfolding place_after
  goes_on a e x h = simp (sym a, e, sym x, lt-ltb _ _ h)
