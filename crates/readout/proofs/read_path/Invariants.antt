-- One turn is `backward-more`, cited with what the functions on codes promise; a goal fits a byte, for it is a state (`NotedWell`).
use Rattle.readout.proofs.Backward.{Backward}
use Rattle.readout.proofs.read_path.Given as goal

abbrev pub invariant-loop-b : goal.invariant-loop-b
invariant-loop-b l = Backward l.back l.blocks l.slot l.at l.initial.labels l.labels l.initial.goals l.goals l.j l.b
