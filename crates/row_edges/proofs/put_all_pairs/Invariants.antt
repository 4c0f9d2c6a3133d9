-- `row_edges::put_all_pairs` writes the pairs of one step after another: the loop keeps what is written of the steps so far.
use Rattle.row_pieces.specs.Inner.Pieces.{pairs_from}
use Rattle.row_edges.proofs.AllPieces.{InAll}
use Rattle.row_edges.proofs.put_all_pairs.Given as goal

abbrev pub invariant-loop-t : goal.invariant-loop-t
invariant-loop-t l = InAll pairs_from 2 l.edges l.counts l.n l.dims l.initial.section l.at l.section l.to l.lo l.t
