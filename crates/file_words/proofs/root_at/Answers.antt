-- `file_words::root_at` meets its contract: it reads the place that the definition names.
use Rattle.fields.specs.Fields.{file_word}
use Rattle.file_words.proofs.root_at.Goals as goal

pub returns : goal.returns
unfolding file_word
returns c = c.byte_at.ensures
