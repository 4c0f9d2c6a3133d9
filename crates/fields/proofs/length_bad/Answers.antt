-- `fields::length_bad` meets its contract: the two tests are the definition's.
use borrow.Author.Tests.{lt-ltb}
use mathlib.Core.Path.{◌∙◌}
use Rattle.fields.proofs.Reading.{short, long}
use Rattle.fields.proofs.length_bad.Goals as goal

pub returns-then-file-lt5 : goal.returns-then-file-lt5
returns-then-file-lt5 c = lt-ltb _ _ c.if-file-lt5.true ∙ short _ c.if-file-lt5.true

pub returns-else-file-lt5 : goal.returns-else-file-lt5
returns-else-file-lt5 c = long _ c.if-file-lt5.false (c.from.ensures ∙ c.word_count.ensures)
