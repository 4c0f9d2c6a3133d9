-- `word_file::put_labels` meets its contract. The loop's invariant: the labels passed are written.
use Rattle.word_file.proofs.Writing.{pieces_start, label_is, pieces_next, pieces_all}
use borrow.Author.Rules.{rules}
use Rattle.word_file.proofs.put_labels.Goals as goal

pub loop-i-init : goal.loop-i-init
loop-i-init c = pieces_start

pub loop-i-preserved : goal.loop-i-preserved
loop-i-preserved c =
    pieces_next c.loop-i.invariant c.loop-i-test.true (search rules)
    (label_is _ c.label_of.ensures c.from-label.ensures c.byte.ensures c.byte-in-loop-i.ensures)

pub returns : goal.returns
returns c = pieces_all c.loop-i.invariant (search rules)
