-- `block::put_prices` goes from the last symbol to the first, each weighing four times the one before it. The loop's invariant: the steps
-- passed have what their symbols add; what a symbol costs is its bit of the mask against the label that has it throughout.
use Rattle.block.proofs.Costs.{InPrices}
use Rattle.block.proofs.put_prices.Given as goal

abbrev pub invariant-loop-t : goal.invariant-loop-t
invariant-loop-t l = InPrices l.n l.received l.erased l.prices l.weight l.t
