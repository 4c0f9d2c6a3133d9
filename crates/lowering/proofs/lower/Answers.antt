-- `lowering::lower` takes the edges of a step one by one. The loop's invariant: what each vertex of the row has and what the edges to come
-- give it come to what all its edges give.
use borrow.Author.Rules.{rules}
use Rattle.lowering.proofs.Lowered.{lower_start, lower_more, lower_end}
use Rattle.lowering.proofs.lower.Goals as goal

pub loop-k-init : goal.loop-k-init
loop-k-init c = lower_start c.requires

pub loop-k-preserved : goal.loop-k-preserved
loop-k-preserved c =
    lower_more c.requires c.loop-k.invariant c.loop-k-test.true c.edge_at-e.ensures
    c.min.ensures

pub returns : goal.returns
returns c = lower_end c.loop-k.invariant (search rules)
