-- `row_pieces::put_pairs` writes the pairs edge by edge: the loop keeps the piece that is written so far.
use Rattle.row_pieces.specs.Inner.Pieces.{pairs_from}
use Rattle.row_pieces.proofs.Pieces.{Put}
use Rattle.row_pieces.proofs.put_pairs.Given as goal

abbrev pub invariant-loop-edge : goal.invariant-loop-edge
invariant-loop-edge l = Put (pairs_from l.dim) 2 l.edges l.initial.section l.at l.section l.to l.edge-index
