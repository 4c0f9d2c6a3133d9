-- `witness::first_witness` meets its contract. Both loops keep that no triple before the present one refutes the table. The measures are
-- what is left of the words.
use Prim.Native.Nat.{◌-◌}
use Rattle.lacking.specs.Inner.Search.{NoneBefore}
use Rattle.lacking.specs.Inner.Rows.{refutes_in}
use Rattle.lacking.proofs.Passing.{InTries}
use Rattle.witness.proofs.first_witness.Given as goal

abbrev pub invariant-loop-next : goal.invariant-loop-next
invariant-loop-next l = InTries l.starts l.firsts l.w l.i l.j

abbrev pub decreases-loop-next : goal.decreases-loop-next
decreases-loop-next l = l.w - l.j

abbrev pub invariant-search : goal.invariant-search
invariant-search l = NoneBefore (refutes_in l.starts l.firsts l.w) l.w l.i

abbrev pub decreases-search : goal.decreases-search
decreases-search l = l.w - l.i
