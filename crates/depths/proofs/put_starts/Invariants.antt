-- `depths::put_starts` meets its contract. The loop keeps the starts of the runs of the words before i, and that of the last of them.
use Rattle.depths.proofs.Starts.{InStarts}
use Rattle.depths.proofs.put_starts.Given as goal

abbrev pub invariant-loop-i : goal.invariant-loop-i
invariant-loop-i l = InStarts l.roots l.labels l.n l.t l.starts l.i l.start
