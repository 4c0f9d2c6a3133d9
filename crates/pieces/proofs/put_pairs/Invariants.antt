-- `pieces::put_pairs` writes the pairs word by word: the loop keeps the piece that is written so far.
use Rattle.takers.specs.Inner.Pieces.{pairs_of}
use Rattle.pieces.proofs.Pieces.{InPiece}
use Rattle.pieces.proofs.put_pairs.Given as goal

abbrev pub invariant-loop-k : goal.invariant-loop-k
invariant-loop-k l = InPiece (pairs_of l.map l.w l.row) 2 l.words l.lo l.hi l.initial.section l.at l.section l.to l.k
