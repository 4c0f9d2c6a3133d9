-- `row_pieces::put_symbols` writes the symbols edge by edge: the loop keeps the piece that is written so far.
use Prim.Native.Nat.{◌+◌}
use Rattle.row_pieces.specs.Inner.Pieces.{symbols_from}
use Rattle.row_pieces.proofs.Pieces.{Put}
use Rattle.row_pieces.proofs.put_symbols.Given as goal

abbrev pub invariant-loop-k : goal.invariant-loop-k
invariant-loop-k l = Put (symbols_from l.dim) 1 l.edges l.initial.section l.at l.section (l.at + l.k) l.k
