-- `lacking::put_next` meets its contract. The loop keeps the next words of the words from i on, and for each first word before i the
-- nearest of them that has its ending.
use Rattle.lacking.proofs.Chains.{InNext}
use Rattle.lacking.proofs.put_next.Given as goal

abbrev pub invariant-loop-i : goal.invariant-loop-i
invariant-loop-i l = InNext l.w l.firsts l.next l.i
