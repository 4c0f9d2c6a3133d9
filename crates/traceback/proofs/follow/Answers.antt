-- `traceback::follow` goes from block to block by the notes. The loop's invariant: whatever chain the notes are of, the words written are
-- the beginning of its path, and what is left of the path starts in this state.
use borrow.Author.Rules.{rules}
use Rattle.passes.proofs.Chains.{follow_start, follow_more, follow_end}
use Rattle.traceback.proofs.follow.Goals as goal

pub loop-b-init : goal.loop-b-init
loop-b-init c = follow_start c.requires

pub loop-b-preserved : goal.loop-b-preserved
loop-b-preserved c =
    follow_more c.requires c.loop-b.invariant c.loop-b-test.true c.label_of.ensures c.goal_of-goal.ensures
    c.from-s.ensures

pub returns : goal.returns
returns c = follow_end c.loop-b.invariant (search rules)
