-- `text::put_line` puts the word, then the numbers one by one, then the newline byte. The loop's invariant: the word and the numbers passed
-- are put.
use Rattle.text.specs.Line.{spaced}
use Rattle.text.proofs.Putting.{Pieces}
use Rattle.text.proofs.put_line.Given as goal

abbrev pub invariant-loop-number : goal.invariant-loop-number
invariant-loop-number l = Pieces spaced l.initial.text l.initial.end l.numbers l.text l.end l.number-index
