-- `word_file::put_labels` meets its contract. The loop's invariant: the labels passed are written.
use Rattle.word_file.specs.Inner.Written.{label_of_code}
use Rattle.word_file.proofs.Writing.{Pieces}
use Rattle.word_file.proofs.put_labels.Given as goal

abbrev pub invariant-loop-i : goal.invariant-loop-i
invariant-loop-i l = Pieces label_of_code l.initial.file l.start l.codes l.count l.file l.at l.i
