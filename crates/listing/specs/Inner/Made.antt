-- What making the text leaves.
use Rattle.std.specs.Prelude.{cond, List, ℕ, ◌≤◌, length, eqb}
use Rattle.trellis.specs.Outcome.{Outcome}
use Rattle.text.specs.Inner.Put.{Put}
use Rattle.lines.specs.Text.{sizes_of, refusal_line, text_of}

-- the sizes where measuring comes to a section, which it answers by 7, else the refusal
unfoldable pub text_from : ℕ → Outcome → List ℕ → List ℕ
text_from words o sizes = cond (eqb o.number 7) (sizes_of words sizes) (refusal_line o)

-- bytes that are enough for every text
abbrev pub any_text : ℕ
any_text = 1024

-- the text of a file is put at the front of a buffer, and fits where there are these bytes
pub record TextMade (file old new : List ℕ) (end : ℕ) : Type 0 where
  pub put : Put old 0 (text_of file) new end
  pub short : length (text_of file) ≤ any_text
