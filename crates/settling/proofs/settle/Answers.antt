-- `settling::settle` goes from the last block to the first. The loop's invariant: from block b on the table has its costs, before it the
-- notes are still there, and the costs behind are at hand.
use borrow.Author.Rules.{rules}
use mathlib.Core.Path.{refl}
use native.Mathlib.Omega.{arith}
use Rattle.cost_table.proofs.Rows.{one_below, row_inside, row_back}
use Rattle.cost_table.proofs.Tables.{block_at}
use Rattle.settling.proofs.Settling.{settle_start, last_is, row_fits, settle_more, settle_end}
use Rattle.settling.proofs.settle.Goals as goal

pub loop-b-init : goal.loop-b-init
loop-b-init c = settle_start c.copy_row.ensures

pub bounds-indices-b : goal.bounds-indices-b
bounds-indices-b c = search (rules, c.loop-b.invariant.b_le)

pub offset_bounds-starts-i : goal.offset_bounds-starts-i
offset_bounds-starts-i c =
    let B = block_at c.requires.ready (one_below c.loop-b.invariant.b_le c.loop-b-test.true) c.from-i.ensures in
    omega arith

pub bounds-starts-i : goal.bounds-starts-i
bounds-starts-i c =
    let B = block_at c.requires.ready (one_below c.loop-b.invariant.b_le c.loop-b-test.true) c.from-i.ensures in
    omega arith

pub overflow_mul-row : goal.overflow_mul-row
overflow_mul-row c =
    let B = block_at c.requires.ready (one_below c.loop-b.invariant.b_le c.loop-b-test.true) c.from-i.ensures in
    omega arith

pub overflow_add-next : goal.overflow_add-next
overflow_add-next c =
    let B = block_at c.requires.ready (one_below c.loop-b.invariant.b_le c.loop-b-test.true) c.from-i.ensures in
    omega arith

pub offset_bounds-sections-start : goal.offset_bounds-sections-start
offset_bounds-sections-start c =
    let B = block_at c.requires.ready (one_below c.loop-b.invariant.b_le c.loop-b-test.true) c.from-i.ensures in
    omega arith

pub slice_bounds-settle_block-count : goal.slice_bounds-settle_block-count
slice_bounds-settle_block-count c =
    let B = block_at c.requires.ready (one_below c.loop-b.invariant.b_le c.loop-b-test.true) c.from-i.ensures in
    omega arith

pub slice_bounds-settle_block-start : goal.slice_bounds-settle_block-start
slice_bounds-settle_block-start c =
    let B = block_at c.requires.ready (one_below c.loop-b.invariant.b_le c.loop-b-test.true) c.from-i.ensures in
    omega arith

pub offset_bounds-costs-row : goal.offset_bounds-costs-row
offset_bounds-costs-row c =
    let B = block_at c.requires.ready (one_below c.loop-b.invariant.b_le c.loop-b-test.true) c.from-i.ensures in
    omega arith

pub slice_bounds-settle_block-count-in-loop-b : goal.slice_bounds-settle_block-count-in-loop-b
slice_bounds-settle_block-count-in-loop-b c =
    let B = block_at c.requires.ready (one_below c.loop-b.invariant.b_le c.loop-b-test.true) c.from-i.ensures in
    omega arith

pub slice_bounds-settle_block-start-in-loop-b : goal.slice_bounds-settle_block-start-in-loop-b
slice_bounds-settle_block-start-in-loop-b c =
    let R = row_inside c.loop-b.invariant.b_le c.loop-b-test.true c.loop-b.invariant.long c.requires.long in
    omega arith

pub slice_bounds-settle_block-end-in-loop-b : goal.slice_bounds-settle_block-end-in-loop-b
slice_bounds-settle_block-end-in-loop-b c =
    let R = row_inside c.loop-b.invariant.b_le c.loop-b-test.true c.loop-b.invariant.long c.requires.long in
    omega arith

pub settle_block-requires : goal.settle_block-requires
settle_block-requires c =
    let S = c.requires in (
      (block_at S.ready (one_below c.loop-b.invariant.b_le c.loop-b-test.true) c.from-i.ensures).seen.sound,
      row_fits c.loop-b.invariant c.loop-b-test.true S.long S.chain S.blocks_is S.cheap
          (last_is S.blocks_is S.ends_as c.copy_row.ensures) S.noted,
    )

pub loop-b-preserved : goal.loop-b-preserved
loop-b-preserved c =
    let S = c.requires in
    let I = c.loop-b.invariant in
    let h = c.loop-b-test.true in
    let E = c.settle_block.ensures in
    let A = block_at S.ready (one_below I.b_le h) c.from-i.ensures in
    settle_more I h S.long refl S.unrooted A.part_is E
    (row_back E.settled.long (row_inside I.b_le h I.long S.long))

pub returns : goal.returns
returns c = settle_end c.copy_row.ensures c.loop-b.invariant (search rules)
