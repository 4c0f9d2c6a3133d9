-- `twins::marks` meets its contract. The loop's invariant: just the vertices passed are marked.
use Rattle.twins.specs.Inner.Twins.{turned_in}
use Rattle.twins.proofs.Marking.{Marking}
use Rattle.twins.proofs.marks.Given as goal

abbrev pub invariant-loop-k : goal.invariant-loop-k
invariant-loop-k l = Marking (λ k. (turned_in l.back l.step.pairs.now l.step.symbols.now k).from) l.step.count l.marks l.k
