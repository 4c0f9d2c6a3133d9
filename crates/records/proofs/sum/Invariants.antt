-- After as many turns as records the sums are those over the records passed.
use Rattle.records.proofs.Summing.{Summed}
use Rattle.records.proofs.sum.Given as goal

abbrev pub invariant-loop-block : goal.invariant-loop-block
invariant-loop-block l = Summed l.records l.block-index l.sums
