-- `word_file::put_pairs` meets its contract. The loop's invariant: the pairs passed are written.
use Rattle.word_file.specs.Inner.Written.{pair_of_code}
use Rattle.word_file.proofs.Writing.{Pieces}
use Rattle.word_file.proofs.put_pairs.Given as goal

abbrev pub invariant-loop-i : goal.invariant-loop-i
invariant-loop-i l = Pieces (pair_of_code l.goals) l.initial.file 5 l.codes l.count l.file l.at l.i
