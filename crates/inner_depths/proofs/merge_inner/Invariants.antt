-- `inner_depths::merge_inner` meets its contract. The loop keeps what is found at the depths from t on, and that the row tells the endings
-- at depth t apart.
use Rattle.depths.specs.Inner.Words.{words}
use Rattle.inner_depths.proofs.AllDepths.{InDepths}
use Rattle.inner_depths.proofs.merge_inner.Given as goal

abbrev pub invariant-loop-t : goal.invariant-loop-t
invariant-loop-t l = InDepths l.table.n (words l.table.roots.now l.table.labels.now l.table.goals.now) l.initial.map l.map l.initial.counts l.counts l.row l.t l.refused
