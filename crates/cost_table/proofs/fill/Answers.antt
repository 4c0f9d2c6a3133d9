-- `cost_table::fill` passes the blocks from the last to the first. The loop's invariant: what is left to pay and the notes are those of the
-- chain from block b on.
use borrow.Author.Rules.{rules}
use native.Mathlib.Omega.{arith}
use lib.ListN.{length-take, length-drop}
use Rattle.cost_table.proofs.Tables.{fill_start, block_at, fill_more, fill_end}
use Rattle.cost_table.proofs.Rows.{one_below, row_inside, row_back}
use Rattle.cost_table.proofs.fill.Goals as goal

pub loop-b-init : goal.loop-b-init
loop-b-init c = fill_start c.requires.1

pub bounds-indices-b : goal.bounds-indices-b
bounds-indices-b c = search (rules, c.loop-b.invariant.b_le)

pub offset_bounds-views-i : goal.offset_bounds-views-i
offset_bounds-views-i c =
    let B = block_at c.requires.0 (one_below c.loop-b.invariant.b_le c.loop-b-test.true) c.from-i.ensures in
    omega arith

pub bounds-views-i : goal.bounds-views-i
bounds-views-i c =
    let B = block_at c.requires.0 (one_below c.loop-b.invariant.b_le c.loop-b-test.true) c.from-i.ensures in
    omega arith

pub offset_bounds-starts-i : goal.offset_bounds-starts-i
offset_bounds-starts-i c =
    let B = block_at c.requires.0 (one_below c.loop-b.invariant.b_le c.loop-b-test.true) c.from-i.ensures in
    omega arith

pub bounds-starts-i : goal.bounds-starts-i
bounds-starts-i c =
    let B = block_at c.requires.0 (one_below c.loop-b.invariant.b_le c.loop-b-test.true) c.from-i.ensures in
    omega arith

pub offset_bounds-received-b : goal.offset_bounds-received-b
offset_bounds-received-b c =
    let B = block_at c.requires.0 (one_below c.loop-b.invariant.b_le c.loop-b-test.true) c.from-i.ensures in
    omega arith

pub bounds-received-b : goal.bounds-received-b
bounds-received-b c =
    let B = block_at c.requires.0 (one_below c.loop-b.invariant.b_le c.loop-b-test.true) c.from-i.ensures in
    omega (arith, c.loop-b.invariant.b_le, c.requires.0.received_long, c.requires.0.erased_long)

pub bounds-erased-b : goal.bounds-erased-b
bounds-erased-b c =
    let B = block_at c.requires.0 (one_below c.loop-b.invariant.b_le c.loop-b-test.true) c.from-i.ensures in
    omega (arith, c.loop-b.invariant.b_le, c.requires.0.received_long, c.requires.0.erased_long)

pub overflow_mul-first : goal.overflow_mul-first
overflow_mul-first c =
    let B = block_at c.requires.0 (one_below c.loop-b.invariant.b_le c.loop-b-test.true) c.from-i.ensures in
    omega arith

pub overflow_add-next : goal.overflow_add-next
overflow_add-next c =
    let B = block_at c.requires.0 (one_below c.loop-b.invariant.b_le c.loop-b-test.true) c.from-i.ensures in
    omega arith

pub offset_bounds-sections-start : goal.offset_bounds-sections-start
offset_bounds-sections-start c =
    let B = block_at c.requires.0 (one_below c.loop-b.invariant.b_le c.loop-b-test.true) c.from-i.ensures in
    omega arith

pub slice_bounds-numbers-count : goal.slice_bounds-numbers-count
slice_bounds-numbers-count c =
    let B = block_at c.requires.0 (one_below c.loop-b.invariant.b_le c.loop-b-test.true) c.from-i.ensures in
    omega arith

pub slice_bounds-numbers-start : goal.slice_bounds-numbers-start
slice_bounds-numbers-start c =
    let B = block_at c.requires.0 (one_below c.loop-b.invariant.b_le c.loop-b-test.true) c.from-i.ensures in
    omega arith

pub offset_bounds-costs-first : goal.offset_bounds-costs-first
offset_bounds-costs-first c =
    let B = block_at c.requires.0 (one_below c.loop-b.invariant.b_le c.loop-b-test.true) c.from-i.ensures in
    omega arith

pub slice_bounds-fill_block-count : goal.slice_bounds-fill_block-count
slice_bounds-fill_block-count c =
    let B = block_at c.requires.0 (one_below c.loop-b.invariant.b_le c.loop-b-test.true) c.from-i.ensures in
    omega arith

pub slice_bounds-fill_block-start : goal.slice_bounds-fill_block-start
slice_bounds-fill_block-start c =
    let B = row_inside c.loop-b.invariant.b_le c.loop-b-test.true c.loop-b.invariant.long c.requires.2 in
    omega arith

pub slice_bounds-fill_block-end : goal.slice_bounds-fill_block-end
slice_bounds-fill_block-end c =
    let B = row_inside c.loop-b.invariant.b_le c.loop-b-test.true c.loop-b.invariant.long c.requires.2 in
    omega arith

pub fill_block-requires : goal.fill_block-requires
fill_block-requires c =
    let I = c.loop-b.invariant in
    let h = c.loop-b-test.true in (
      (block_at c.requires.0 (one_below I.b_le h) c.from-i.ensures).seen,
      simp (length-take, length-drop) (omega (arith, row_inside I.b_le h I.long c.requires.2)),
      I.working,
    )

pub loop-b-preserved : goal.loop-b-preserved
loop-b-preserved c =
    let I = c.loop-b.invariant in
    let h = c.loop-b-test.true in
    let E = c.fill_block.ensures in
    let A = block_at c.requires.0 (one_below I.b_le h) c.from-i.ensures in
    fill_more I h A.part_is E.0 E.1
    (row_back E.0.passed.notes_long (row_inside I.b_le h I.long c.requires.2))

pub returns : goal.returns
returns c = fill_end c.loop-b.invariant (search rules)
