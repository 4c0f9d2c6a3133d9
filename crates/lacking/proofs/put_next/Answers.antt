-- `lacking::put_next` meets its contract. The loop keeps the next words of the words from i on, and for each first word before i the
-- nearest of them that has its ending.
use borrow.Author.Rules.{rules}
use Rattle.lacking.proofs.Chains.{next_none, next_more}
use Rattle.lacking.proofs.put_next.Goals as goal

pub loop-i-init : goal.loop-i-init
loop-i-init c = next_none _ _ c.requires.0 c.requires.1

pub loop-i-preserved : goal.loop-i-preserved
loop-i-preserved c = next_more c.loop-i.invariant (search rules) c.from-first.ensures
