-- `row_file::put_labels` meets its contract. The loop's invariant: the labels passed are written.
use lib.ListN.{length}
use Rattle.word_file.specs.TableBytes.{bytes_of}
use Rattle.word_file.proofs.Writing.{Pieces}
use Rattle.row_file.proofs.put_labels.Given as goal

abbrev pub invariant-loop-label : goal.invariant-loop-label
invariant-loop-label l = Pieces bytes_of l.initial.file l.start l.labels (length l.labels) l.file l.at l.label-index
