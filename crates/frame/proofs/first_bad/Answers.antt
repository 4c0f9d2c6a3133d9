-- `frame::first_bad` tests the blocks in their order. The loop's invariant: no block before b is bad, whatever the sections are that have
-- these views.
use borrow.Author.Rules.{rules}
use Rattle.frame.proofs.Checks.{blocks_start, blocks_index, blocks_unfit, blocks_more, blocks_none}
use mathlib.Core.Path.{ap}
use mathlib.Core.Bool.{not}
use Rattle.frame.proofs.first_bad.Goals as goal

pub loop-b-init : goal.loop-b-init
loop-b-init c = blocks_start

pub returns-then-i-k : goal.returns-then-i-k
returns-then-i-k c = blocks_index c.loop-b.invariant c.from-i.ensures c.loop-b-test.true c.if-i-k.true

pub fits-requires : goal.fits-requires
fits-requires c = c.requires.0.short c.from-i.result (search rules)

pub returns-then-not-fits : goal.returns-then-not-fits
returns-then-not-fits c =
    blocks_unfit c.loop-b.invariant c.from-i.ensures (search rules) c.fits.ensures c.loop-b-test.true
    (ap not c.if-not-fits.true)

pub loop-b-preserved : goal.loop-b-preserved
loop-b-preserved c =
    blocks_more c.loop-b.invariant c.from-i.ensures (search rules) c.fits.ensures c.loop-b-test.true
    (ap not c.if-not-fits.false)

pub returns : goal.returns
returns c = blocks_none c.loop-b.invariant (search rules)
