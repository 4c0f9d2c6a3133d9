-- `text::put_bytes` puts its bytes one by one. The loop's invariant: those passed are put.
use Rattle.text.proofs.Putting.{Pieces, single}
use Rattle.text.proofs.put_bytes.Given as goal

abbrev pub invariant-loop-byte : goal.invariant-loop-byte
invariant-loop-byte l = Pieces single l.initial.text l.at l.bytes l.text l.end l.byte-index
