-- `parity::check_all` takes up row after row, each by its syndrome: the loop keeps that the columns are the check of those taken up so far.
use Rattle.parity.proofs.Checking.{Taken}
use Rattle.parity.proofs.check_all.Given as goal

abbrev pub invariant-loop-row : goal.invariant-loop-row
invariant-loop-row l = Taken l.rows l.row-index l.columns
