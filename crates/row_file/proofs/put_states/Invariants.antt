-- `row_file::put_states` meets its contract. The loop's invariant: the states of the words passed are written. The first
-- state fits a byte since the words are narrow.
use lib.ListN.{length}
use Rattle.word_file.proofs.Writing.{Pieces}
use Rattle.row_file.specs.Inner.Filing.{state_bytes}
use Rattle.row_file.proofs.put_states.Given as goal

abbrev pub invariant-loop-word : goal.invariant-loop-word
invariant-loop-word l = Pieces (state_bytes l.bits l.n) l.initial.file 5 l.words (length l.words) l.file l.at l.word-index
