-- `frame::first_bad` tests the blocks in their order. The loop's invariant: no block before b is bad, whatever the sections are that have
-- these views.
use Rattle.frame.proofs.Checks.{InBlocks}
use Rattle.frame.proofs.first_bad.Given as goal

abbrev pub invariant-loop-b : goal.invariant-loop-b
invariant-loop-b l = InBlocks l.views l.k l.indices l.received l.erased l.b
