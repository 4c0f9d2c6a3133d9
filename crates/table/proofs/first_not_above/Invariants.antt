-- `table::first_not_above` meets its contract. The loop's invariant: every word passed is above the one before it, and the word kept is the
-- last one passed. Word 0 has none before it, so the loop starts behind it.
use Rattle.table.proofs.Checks.{Ascending}
use Rattle.table.proofs.first_not_above.Given as goal

abbrev pub invariant-loop-i : goal.invariant-loop-i
invariant-loop-i l = Ascending l.file l.earlier l.i
