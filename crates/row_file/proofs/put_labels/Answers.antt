-- `row_file::put_labels` meets its contract. The loop's invariant: the labels passed are written.
use mathlib.Core.Path.{refl}
use native.Mathlib.Omega.{arith}
use lib.ListN.{length-set}
use borrow.Author.Rules.{rules}
use Rattle.word_file.proofs.Writing.{pieces_start, pieces_next}
use Rattle.row_file.proofs.Pieces.{pieces_end}
use Rattle.row_file.proofs.put_labels.Goals as goal

pub loop-label-init : goal.loop-label-init
loop-label-init c = pieces_start

pub bounds-file-at-in-loop-label : goal.bounds-file-at-in-loop-label
bounds-file-at-in-loop-label c = simp length-set (omega arith)

pub loop-label-preserved : goal.loop-label-preserved
loop-label-preserved c =
    pieces_next c.loop-label.invariant c.loop-label-test.true (search rules)
    refl

pub returns : goal.returns
returns c = pieces_end c.loop-label.invariant (search rules)
