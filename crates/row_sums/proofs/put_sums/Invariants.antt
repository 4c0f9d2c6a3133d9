-- `row_sums::put_sums` writes the empty sum, then doubles what stands by one row after another: the loop keeps that the sums of the
-- rows so far are written.
use Rattle.row_sums.proofs.AllSums.{SumsPut}
use Rattle.row_sums.proofs.put_sums.Given as goal

abbrev pub invariant-loop-row : goal.invariant-loop-row
invariant-loop-row l = SumsPut l.rows l.initial.buffer l.place l.buffer l.w l.row-index
