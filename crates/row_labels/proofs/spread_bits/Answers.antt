-- `row_labels::spread_bits` meets its contract. The loop's invariant: all but the last `left` bits are spread.
use Prim.Native.Nat.{◌/◌, ◌^◌, ◌-◌}
use native.Mathlib.Omega.{arith}
use lib.Bits.{mask_lt}
use borrow.Author.Rules.{rules}
use Rattle.row_labels.proofs.Spread.{spreading_none, spreading_next, spreading_fits, spreading_end}
use Rattle.row_labels.proofs.spread_bits.Goals as goal

pub loop-left-init : goal.loop-left-init
loop-left-init c = spreading_none _ _

pub overflow_mul-label : goal.overflow_mul-label
overflow_mul-label c = omega (arith, spreading_fits c.loop-left.invariant c.loop-left-test.true c.requires)

pub overflow_add-label : goal.overflow_add-label
overflow_add-label c =
    let fits = spreading_fits c.loop-left.invariant c.loop-left-test.true c.requires in
    omega (arith, mask_lt (c.args.x / 2 ^ (c.loop-left.left - 1)) 1)

pub loop-left-preserved : goal.loop-left-preserved
loop-left-preserved c = spreading_next c.loop-left.invariant c.loop-left-test.true

pub returns : goal.returns
returns c = spreading_end c.loop-left.invariant (search rules)
