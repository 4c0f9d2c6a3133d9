-- `lowering::lower` takes the edges of a step one by one. The loop's invariant: what each vertex of the row has and what the edges to come
-- give it come to what all its edges give.
use Rattle.lowering.proofs.Lowered.{InLower}
use Rattle.lowering.proofs.lower.Given as goal

abbrev pub invariant-loop-k : goal.invariant-loop-k
invariant-loop-k l = InLower l.step.pairs.now l.step.symbols.now l.step.count l.prices l.behind l.initial.row l.row l.k
