-- `least_rows::put_rows` makes the rows from the last depth to the first and saves each. The loop's invariant: the row of depth t holds the
-- least ranks, and the depths from t on have their costs saved.
use Rattle.sweep.proofs.Sweeping.{InSweep}
use Rattle.least_rows.proofs.AllRows.{RowsFrom}
use Rattle.least_rows.proofs.put_rows.Given as goal

abbrev pub invariant-loop-t : goal.invariant-loop-t
invariant-loop-t l = InSweep l.l l.prices l.initial.even l.initial.odd l.even l.odd l.t l.before × RowsFrom l.l l.prices l.initial.even l.initial.odd l.rows l.t
