-- `layout::put_all_pairs` writes the pairs of one step after another: the loop keeps what is written of the steps so far.
use mathlib.Core.Path.{◌≡◌}
use Prim.Native.Nat.{◌*◌}
use lib.ListN.{length}
use Rattle.layout.proofs.AllPieces.{InAll}
use Rattle.takers.specs.Inner.Pieces.{step_pairs}
use Rattle.layout.proofs.put_all_pairs.Given as goal

abbrev pub invariant-loop-t : goal.invariant-loop-t
invariant-loop-t l = (InAll l.map l.labels l.n (step_pairs l.map l.labels l.n) 2 l.at l.initial.section l.section l.to l.lo l.t) × (l.row ≡ l.t * length l.labels)
