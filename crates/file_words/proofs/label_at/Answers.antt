-- `file_words::label_at` meets its contract: it reads the two places that the definition names, which lie behind the pairs of as many words
-- as the file states.
use Rattle.fields.proofs.Reading.{label_is}
use Rattle.file_words.proofs.label_at.Goals as goal

pub returns : goal.returns
returns c =
    label_is _ _ c.word_count.ensures c.byte_at-low.ensures c.byte_at-high.ensures
    c.two_bytes.ensures
