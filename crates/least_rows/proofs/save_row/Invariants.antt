-- `least_rows::save_row` goes over the ranks of a row. The loop's invariant: the distances of those passed are saved.
use Rattle.least_rows.specs.Inner.Rows.{RowSaved}
use Rattle.least_rows.proofs.save_row.Given as goal

abbrev pub invariant-loop-v : goal.invariant-loop-v
invariant-loop-v l = RowSaved l.t l.row l.initial.rows l.rows l.v
