-- `row_labels::spread_bits` meets its contract. The loop's invariant: all but the last `left` bits are spread.
use Rattle.row_labels.proofs.Spread.{Spreading}
use Rattle.row_labels.proofs.spread_bits.Given as goal

abbrev pub invariant-loop-left : goal.invariant-loop-left
invariant-loop-left l = Spreading l.x l.n l.label l.left
