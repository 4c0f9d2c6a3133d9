-- `witness::find_witness` meets its contract. The loop keeps that the row tells the endings at depth u apart; at depth t the rows' first
-- triple is the witness.
use Rattle.witness.proofs.Words.{InRows}
use Rattle.witness.proofs.find_witness.Given as goal

abbrev pub invariant-loop-u : goal.invariant-loop-u
invariant-loop-u l = InRows l.table.n l.t l.table.roots.now l.table.labels.now l.table.goals.now l.row l.u
