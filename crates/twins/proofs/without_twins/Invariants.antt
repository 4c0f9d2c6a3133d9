-- `twins::without_twins` meets its contract. The loop's invariant: no two edges passed make twins, and for each vertex and
-- symbol that they have the array has their one vertex at the other end.
use Rattle.twins.specs.Inner.Twins.{turned_in}
use Rattle.twins.proofs.Marking.{Apart}
use Rattle.twins.proofs.without_twins.Given as goal

abbrev pub invariant-loop-k : goal.invariant-loop-k
invariant-loop-k l = Apart (λ k. (turned_in l.back l.step.pairs.now l.step.symbols.now k).from) (λ k. (turned_in l.back l.step.pairs.now l.step.symbols.now k).symbol) (λ k. (turned_in l.back l.step.pairs.now l.step.symbols.now k).to)
    l.step.count l.seen l.k
