-- `layout::put_all_symbols` writes the symbols of one step after another: the loop keeps what is written of the steps so far.
use Rattle.layout.proofs.AllPieces.{InAll}
use Rattle.takers.specs.Inner.Pieces.{step_symbols}
use Rattle.layout.proofs.put_all_symbols.Given as goal

abbrev pub invariant-loop-t : goal.invariant-loop-t
invariant-loop-t l = InAll l.map l.labels l.n (step_symbols l.map l.labels l.n) 1 l.at l.initial.section l.section l.to l.lo l.t
