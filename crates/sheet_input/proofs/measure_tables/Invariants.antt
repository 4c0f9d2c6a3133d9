-- `sheet_input::measure_tables` goes from table to table. The loop's invariant is `InTables`.
use Rattle.sheet_input.proofs.Tables.{InTables}
use Rattle.sheet_input.proofs.measure_tables.Given as goal

abbrev pub invariant-loop-j : goal.invariant-loop-j
invariant-loop-j l = InTables l.input l.costs.additions l.costs.selections l.at l.j
