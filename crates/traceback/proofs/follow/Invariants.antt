-- `traceback::follow` goes from block to block by the notes. The loop's invariant: whatever chain the notes are of, the words written are
-- the beginning of its path, and what is left of the path starts in this state.
use Rattle.passes.proofs.Chains.{InFollow}
use Rattle.traceback.proofs.follow.Given as goal

abbrev pub invariant-loop-b : goal.invariant-loop-b
invariant-loop-b l = InFollow l.blocks l.start l.notes l.initial.labels l.labels l.initial.goals l.goals l.b l.s
