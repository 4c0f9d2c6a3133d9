-- `settling::settle` goes from the last block to the first. The loop's invariant: from block b on the table has its costs, before it the
-- notes are still there, and the costs behind are at hand.
use lib.ListN.{length}
use Rattle.settling.proofs.Settling.{InSettle}
use Rattle.settling.proofs.settle.Given as goal

abbrev pub invariant-loop-b : goal.invariant-loop-b
invariant-loop-b l = InSettle (length l.indices) l.initial.behind l.initial.costs l.costs l.behind l.b
