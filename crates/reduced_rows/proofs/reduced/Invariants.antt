-- `reduced_rows::reduced` goes through the columns: the loop keeps that the rows written and those of the columns left are all reduced rows. A
-- row is written at each turn, and counts where its column is below the power of 2.
use Rattle.reduced_rows.proofs.ReadingOff.{Reducing}
use Rattle.reduced_rows.proofs.reduced.Given as goal

abbrev pub invariant-loop-m : goal.invariant-loop-m
invariant-loop-m l = Reducing l.columns l.m l.rows l.count
