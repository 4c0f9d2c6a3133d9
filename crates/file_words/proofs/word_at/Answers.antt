-- `file_words::word_at` meets its contract: nothing for a wrong length or an index past the words, and else the word; the index fits 16
-- bits because it is below the word count.
use Rattle.fields.proofs.Reading.{nothing_length, nothing_past, here}
use Rattle.file_words.proofs.word_at.Goals as goal

pub returns-then-length_bad : goal.returns-then-length_bad
returns-then-length_bad c = nothing_length _ _ c.length_bad.ensures c.if-length_bad.true

pub returns-then-i-word_count : goal.returns-then-i-word_count
returns-then-i-word_count c = nothing_past _ c.length_bad.ensures c.if-length_bad.false c.word_count.ensures c.if-i-word_count.true

pub returns : goal.returns
returns c = here _ c.length_bad.ensures c.if-length_bad.false c.word_count.ensures c.if-i-word_count.false c.word_of.ensures
