-- What reading a section back leaves: document 01's outcome and the whole buffer, by its checks 8, 12 and 10 in that order.
-- Every refusal leaves the buffer as it was; success writes the table file of the section's words in front and nothing behind it.
use Rattle.std.specs.Prelude.{not, cond, List, ◌≡◌, ℕ, ◌+◌, ◌*◌, length, ltb}
use Rattle.trellis.specs.Bounds.{most_words}
use Rattle.trellis.specs.Lists.{over}
use Rattle.trellis.specs.Word.{Word}
use Rattle.trellis.specs.Outcome.{Outcome, success, bad_section, short_buffer, too_many_words}
use Rattle.trellis.specs.Layout.{q_of, n_of, states_of, section_words}
use Rattle.outcomes.specs.Numbered.{Numbered}
use Rattle.section_file.specs.Usable.{is_section}
use Rattle.word_file.specs.TableBytes.{table_bytes}

pub record ReadingBack : Type 0 where
  pub outcome : Outcome
  pub file : List ℕ

abbrev pub left : Outcome → List ℕ → ReadingBack
left o file = record { outcome = o; file = file }

abbrev pub file_length : List Word → ℕ
file_length words = 5 + 4 * length words

unfoldable pub reading_back : List ℕ → List ℕ → ReadingBack
reading_back section file =
    let words = section_words section in
    cond (not (is_section section)) (left (bad_section 0) file)
    (cond (ltb most_words (length words)) (left too_many_words file)
    (cond (ltb (length file) (file_length words)) (left (short_buffer (file_length words)) file)
    (left (success (file_length words)) (over (table_bytes (q_of section) (n_of section) (states_of section) words) file))))

-- the same with the answer in numbers, as the function for C leaves it
pub record ReadBackLeft (m : ReadingBack) (number : ℕ) (file values : List ℕ) : Type 0 where
  pub answer_is : Numbered m.outcome number values
  pub file_is : file ≡ m.file
