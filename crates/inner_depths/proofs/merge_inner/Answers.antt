-- `inner_depths::merge_inner` meets its contract. The loop keeps what is found at the depths from t on, and that the row tells the endings
-- at depth t apart.
use mathlib.Core.Path.{subst}
use Rattle.depths.specs.Inner.Merge.{DepthDone}
use borrow.Author.Rules.{rules}
use Rattle.depths.proofs.Goals.{goal_row}
use Rattle.inner_depths.proofs.AllDepths.{depths_none, depths_ask, depths_merged, depths_refused, depths_end}
use Rattle.inner_depths.proofs.merge_inner.Goals as goal

pub loop-t-init : goal.loop-t-init
loop-t-init c = depths_none c.requires.held.table.some (goal_row c.requires.held c.put_goals.ensures) c.requires.nine

pub merge_depth-requires : goal.merge_depth-requires
merge_depth-requires c = depths_ask c.requires c.loop-t.invariant (search rules)

pub loop-t-preserved-in-Some : goal.loop-t-preserved-in-Some
loop-t-preserved-in-Some c =
    depths_merged c.loop-t.invariant c.requires.held.short (search rules)
    (subst (DepthDone _ _ _ _ _ _) c.in-Some.is c.merge_depth.ensures)

pub loop-t-preserved : goal.loop-t-preserved
loop-t-preserved c =
    depths_refused c.loop-t.invariant c.requires.held.short (search rules)
    (subst (DepthDone _ _ _ _ _ _) c.in-None.is c.merge_depth.ensures)

pub returns : goal.returns
returns c = depths_end c.loop-t.invariant (search rules)
