-- After i turns the sums are those over the first i records, each at most i times 2^32: a turn adds the record at i to both, which stays
-- below 2^64, since there are at most 256 turns. The loop ends at i equal to the length, where the first i records are all.
use mathlib.Core.Path.{refl}
use native.Mathlib.Omega.{arith}
use lib.ListN.{get_or}
use Rattle.records.specs.Inner.Blank.{blank}
use Rattle.records.proofs.Summing.{summed_none, summed_next}
use Rattle.records.proofs.sum.Goals as goal

pub loop-block-init : goal.loop-block-init
loop-block-init c = summed_none c.args.records.now

pub loop-block-preserved : goal.loop-block-preserved
loop-block-preserved c =
    summed_next {block = get_or c.args.records.now c.loop-block.block-index blank} c.loop-block.invariant c.loop-block-test.true refl
    (record { additions_fit = omega arith; selections_fit = omega arith }) (refl, refl)
