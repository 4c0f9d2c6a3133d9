-- `pieces::put_symbols` writes the symbols word by word: the loop keeps the piece that is written so far.
use Rattle.takers.specs.Inner.Pieces.{symbols_of}
use Rattle.pieces.proofs.Pieces.{InPiece}
use Rattle.pieces.proofs.put_symbols.Given as goal

abbrev pub invariant-loop-k : goal.invariant-loop-k
invariant-loop-k l = InPiece (symbols_of l.labels l.n l.t) 1 l.words l.lo l.hi l.initial.section l.at l.section l.to l.k
