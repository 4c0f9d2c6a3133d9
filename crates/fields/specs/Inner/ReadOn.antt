-- Reading on from word to word: where a reader stands behind a word, and what it must find from word 0 to the end.
use Rattle.std.specs.Prelude.{◌≡◌, cond, List, ℕ, zero, suc, ◌+◌, ◌≤◌, ◌<◌, ltb, Some, None}
use Rattle.fields.specs.Fields.{word_count, file_word, length_bad}
use Rattle.fields.specs.Inner.Answer.{held_word, found_at}

-- the place behind the word at i, or i itself where `found_at` finds none
unfoldable pub place_after : List ℕ → ℕ → ℕ
place_after file i = cond (length_bad file) i (cond (ltb i (word_count file)) (i + 1) i)

-- the place of a reader that starts at word 0 and has read k times
unfoldable pub place_of : List ℕ → ℕ → ℕ
place_of file zero = 0
place_of file (suc k) = place_after file (place_of file k)

-- every word is found once, in the file's order, and then the end
pub record ReadsAll (file : List ℕ) : Type 0 where
  pub in_order : (k : ℕ) → k < word_count file → found_at file (place_of file k) ≡ Some (held_word (file_word file k))
  pub at_end : (k : ℕ) → word_count file ≤ k → found_at file (place_of file k) ≡ None
