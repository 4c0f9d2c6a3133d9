-- `word_file::put_pairs` meets its contract. The loop's invariant: the pairs passed are written.
use Rattle.word_file.proofs.Writing.{pieces_start, pair_is, pieces_next, pieces_all}
use borrow.Author.Rules.{rules}
use Rattle.word_file.proofs.put_pairs.Goals as goal

pub loop-i-init : goal.loop-i-init
loop-i-init c = pieces_start

pub loop-i-preserved : goal.loop-i-preserved
loop-i-preserved c =
    let a = c.args in
    pieces_next c.loop-i.invariant c.loop-i-test.true (search rules)
    (pair_is a.goals.now _ c.root_of.ensures c.byte.ensures c.vertex_of.ensures c.byte_at.ensures)

pub returns : goal.returns
returns c = pieces_all c.loop-i.invariant (search rules)
