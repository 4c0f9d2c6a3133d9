-- `file_words::word_of` meets its contract: the three fields are those of the word.
use Rattle.fields.proofs.Reading.{held_is}
use Rattle.file_words.proofs.word_of.Goals as goal

pub returns : goal.returns
returns c = held_is _ _ c.root_at.ensures c.label_at.ensures c.goal_at.ensures
