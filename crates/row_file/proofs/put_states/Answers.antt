-- `row_file::put_states` meets its contract. The loop's invariant: the states of the words passed are written. The first
-- state fits a byte since the words are narrow.
use mathlib.Core.Path.{refl}
use native.Mathlib.Omega.{arith}
use lib.ListN.{get_or, length-set}
use borrow.Author.Rules.{rules}
use Rattle.word_file.proofs.Writing.{pieces_start, pieces_next}
use Rattle.row_file.proofs.States.{root_byte}
use Rattle.row_file.proofs.Pieces.{states_are, pieces_whole}
use Rattle.row_file.proofs.put_states.Goals as goal

pub loop-word-init : goal.loop-word-init
loop-word-init c = pieces_start

pub overflow_cast-file-in-loop-word : goal.overflow_cast-file-in-loop-word
overflow_cast-file-in-loop-word c =
    let a = c.args in
    let i = c.loop-word.word-index in
    search (rules, root_byte a.bits a.n (get_or a.words.now i 0) (search rules) (c.requires.0 i c.loop-word-test.true))

pub bounds-file-at-in-loop-word : goal.bounds-file-at-in-loop-word
bounds-file-at-in-loop-word c = simp length-set (omega arith)

pub loop-word-preserved : goal.loop-word-preserved
loop-word-preserved c =
    let a = c.args in
    pieces_next c.loop-word.invariant c.loop-word-test.true (search rules)
    (states_are a.bits a.n _ refl c.low_bits.ensures)

pub returns : goal.returns
returns c = pieces_whole c.loop-word.invariant (search rules)
