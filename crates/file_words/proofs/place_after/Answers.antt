-- `file_words::place_after` meets its contract: it asks what `word_at` asks, and goes on by one where that finds a word. The next index
-- fits 16 bits because the index is below the word count.
use Rattle.fields.proofs.Reading.{stays_length, stays_past, goes_on}
use Rattle.file_words.proofs.place_after.Goals as goal

-- the three ways out
pub returns-then-length_bad : goal.returns-then-length_bad
returns-then-length_bad c = stays_length _ _ c.length_bad.ensures c.if-length_bad.true

pub returns-then-i-word_count : goal.returns-then-i-word_count
returns-then-i-word_count c = stays_past _ c.length_bad.ensures c.if-length_bad.false c.word_count.ensures c.if-i-word_count.true

pub returns : goal.returns
returns c = goes_on _ c.length_bad.ensures c.if-length_bad.false c.word_count.ensures c.if-i-word_count.false
