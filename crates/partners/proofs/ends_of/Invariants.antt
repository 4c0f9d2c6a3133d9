-- `partners::ends_of` meets its contract. The loop's invariant: for the start and the symbol of each edge passed the array
-- has its end.
use Rattle.twins.specs.Inner.Twins.{turned_in}
use Rattle.partners.proofs.Ends.{Passing}
use Rattle.partners.proofs.ends_of.Given as goal

abbrev pub invariant-loop-k : goal.invariant-loop-k
invariant-loop-k l = Passing (turned_in l.back l.step.pairs.now l.step.symbols.now) l.step.count l.ends l.k
