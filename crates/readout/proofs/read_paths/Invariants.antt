-- One turn is `paths-more`, cited with what the functions on slots and `read_path` promise. The next path begins where r · blocks words are
-- written, so it has room and its place is small (`paths-room`, `paths-near`).
use Rattle.readout.proofs.Paths.{InPaths}
use Rattle.readout.proofs.read_paths.Given as goal

abbrev pub invariant-loop-r : goal.invariant-loop-r
invariant-loop-r l = InPaths l.slots l.count l.back l.blocks l.initial.distances l.distances l.initial.labels l.labels l.initial.goals l.goals l.at l.r
