-- `depths::put_goals` meets its contract. The loop keeps that the first i numbers of the row are the first i goals, which are bytes.
use Rattle.depths.proofs.Goals.{InBytes}
use Rattle.depths.proofs.put_goals.Given as goal

abbrev pub invariant-loop-i : goal.invariant-loop-i
invariant-loop-i l = InBytes l.goals l.row l.i
