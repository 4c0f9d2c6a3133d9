-- What a call leaves: document 01's outcome and the whole buffer. A buffer that is too short for the text is left as it was.
use Rattle.std.specs.Prelude.{cond, List, ◌≡◌, ℕ, length, ltb}
use Rattle.trellis.specs.Lists.{over}
use Rattle.trellis.specs.Outcome.{Outcome, success, short_buffer}
use Rattle.outcomes.specs.Numbered.{Numbered}
use Rattle.lines.specs.Text.{text_of}

pub record Listing : Type 0 where
  pub outcome : Outcome
  pub text : List ℕ

abbrev pub left : Outcome → List ℕ → Listing
left o text = record { outcome = o; text = text }

-- a text in a lent buffer: 10 where it is too short
unfoldable pub in_buffer : List ℕ → List ℕ → Listing
in_buffer text buffer =
    cond (ltb (length buffer) (length text)) (left (short_buffer (length text)) buffer) (left (success (length text)) (over text buffer))

unfoldable pub listing : List ℕ → List ℕ → Listing
listing file buffer = in_buffer (text_of file) buffer

-- the same with the answer in numbers, as the function for C leaves it
pub record ListingLeft (m : Listing) (number : ℕ) (text values : List ℕ) : Type 0 where
  pub answer_is : Numbered m.outcome number values
  pub text_is : text ≡ m.text
