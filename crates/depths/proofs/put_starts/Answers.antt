-- `depths::put_starts` meets its contract. The loop keeps the starts of the runs of the words before i, and that of the last of them.
use borrow.Author.Rules.{rules}
use Rattle.depths.proofs.Starts.{starts_more}
use Rattle.depths.proofs.put_starts.Goals as goal

pub loop-i-preserved : goal.loop-i-preserved
loop-i-preserved c = starts_more c.loop-i.invariant c.run_start-start.ensures (search rules) (search rules)
