-- What this crate's answers say: a word as the code holds it, and the word that `word_at` finds.
use Rattle.std.specs.Prelude.{cond, List, ℕ, ltb, Option, Some, None}
use Rattle.trellis.specs.Word as trellis
use Rattle.fields.specs.Fields.{word_count, file_word, length_bad}
use Rattle.fields.specs.declared.Word.{Word}

-- a word of the theory as the code holds it
abbrev pub held_word : trellis.Word → Word
held_word w = record { root = w.root; label = w.label; goal = w.goal }

-- a word of the code as the theory has it
abbrev pub meant_word : Word → trellis.Word
meant_word w = trellis.word w.root w.label w.goal

-- the word at index i where the file's length is 5 + 4W and i is below W
unfoldable pub found_at : List ℕ → ℕ → Option Word
found_at file i = cond (length_bad file) None (cond (ltb i (word_count file)) (Some (held_word (file_word file i))) None)
