-- What holds of a table file that is not refused: that none of the checks finds anything, and what that says of its numbers and words.
use Rattle.std.specs.Prelude.{◌≡◌, true, false, List, ℕ, ◌+◌, ◌*◌, ◌≤◌, ◌<◌, length}
use Rattle.trellis.specs.Bounds.{most_states, most_words, most_symbols, least_q, most_q}
use Rattle.trellis.specs.Lists.{◌∈◌}
use Rattle.trellis.specs.Label.{is_label}
use Rattle.trellis.specs.Word.{Word, Table}
use Rattle.fields.specs.Fields.{byte_at, word_count, file_words, length_bad}
use Rattle.table.specs.File.{size_outside, word_bad, order_bad}

-- none of the conditions of refusals 1 to 4 holds
pub record Passes (file : List ℕ) : Type 0 where
  pub length_right : length_bad file ≡ false
  pub sizes_inside : (place : ℕ) → place < 4 → size_outside file place ≡ false
  pub words_right : (i : ℕ) → i < word_count file → word_bad file i ≡ false
  pub words_ascend : (i : ℕ) → i < word_count file → order_bad file i ≡ false

-- q, n, S and the words are what the file states, within document 01's bounds
pub record GoodFile (file : List ℕ) (q n S : ℕ) (words : List Word) : Type 0 where
  pub q_is : q ≡ byte_at file 0
  pub n_is : n ≡ byte_at file 1
  pub states_is : S ≡ byte_at file 2
  pub words_are : words ≡ file_words file
  pub count_is : length words ≡ word_count file
  pub length_is : length file ≡ 5 + 4 * length words
  pub q_from : least_q ≤ q
  pub q_to : q ≤ most_q
  pub n_from : 1 ≤ n
  pub n_to : n ≤ most_symbols
  pub states_from : 1 ≤ S
  pub states_to : S ≤ most_states
  pub count_from : 1 ≤ length words
  pub count_to : length words ≤ most_words
  pub roots_below : (w : Word) → w ∈ words → w.root < S
  pub goals_below : (w : Word) → w ∈ words → w.goal < S
  pub are_labels : (w : Word) → w ∈ words → is_label q n w.label ≡ true
  pub table : Table n words
