-- `block::put_prices` goes from the last symbol to the first, each weighing four times the one before it. The loop's invariant: the steps
-- passed have what their symbols add; what a symbol costs is its bit of the mask against the label that has it throughout.
use mathlib.Core.Path.{refl}
use lib.Dec.{lit<}
use borrow.Author.Rules.{rules}
use Rattle.comparing.proofs.Marks.{repeated, symbol_cost_lem}
use Rattle.block.proofs.Costs.{prices_start, step_inside, prices_more, prices_end}
use Rattle.block.proofs.put_prices.Goals as goal

pub loop-t-init : goal.loop-t-init
loop-t-init c = prices_start c.requires.1

pub loop-t-preserved : goal.loop-t-preserved
unfolding repeated
loop-t-preserved c =
    let few = c.requires.0 in
    let short = c.ranges.received.fits in
    let inside = step_inside c.loop-t.invariant c.loop-t-test.true in
    prices_more few c.loop-t.invariant c.loop-t-test.true
    (symbol_cost_lem (c.compare-zeros.ensures 8 (lit< tt) short (lit< tt)) 0 refl (lit< tt) _ _ few inside c.bit_at.ensures.0)
    c.price.ensures
    (symbol_cost_lem (c.compare-ones.ensures 8 (lit< tt) short (lit< tt)) 1 refl (lit< tt) _ _ few inside c.bit_at-in-loop-t.ensures.0)
    c.price-in-loop-t.ensures
    (symbol_cost_lem (c.compare-twos.ensures 8 (lit< tt) short (lit< tt)) 2 refl (lit< tt) _ _ few inside c.bit_at-in-loop-t-2.ensures.0)
    c.price-in-loop-t-2.ensures
    (symbol_cost_lem (c.compare-threes.ensures 8 (lit< tt) short (lit< tt)) 3 refl (lit< tt) _ _ few inside c.bit_at-in-loop-t-3.ensures.0)
    c.price-in-loop-t-3.ensures

pub returns : goal.returns
returns c = prices_end c.loop-t.invariant (search rules)
