-- `forward::keep_blocks` puts the first beginning into the first slot and takes the slots through block after block. The loop's invariant:
-- they are what is kept in front of block b, the limit is below the cost of no path, and the working room is there.
use borrow.Author.Rules.{rules}
use mathlib.Core.Path.{ap, ◌∙◌}
use native.Mathlib.Omega.{arith}
use lib.ListN.{get_or}
use Rattle.dearest.specs.Inner.Items.{item_of}
use Rattle.forward.proofs.First.{cost_low, kept_start}
use Rattle.forward.proofs.Chained.{kept_end}
use Rattle.forward.proofs.Held.{room_start, held_at, block_ready, block_kept}
use Rattle.forward.proofs.keep_blocks.Goals as goal

pub ends_in-ends-requires : goal.ends_in-ends-requires
ends_in-ends-requires c =
    let p = c.requires in
    omega (arith, c.from.ensures, p.0.checks.framed.end_below)

pub bounds-costs-from : goal.bounds-costs-from
bounds-costs-from c =
    let p = c.requires in
    let F = p.0.checks.framed in
    omega (arith, c.from-from.ensures, F.start_below, F.some, p.1.long)

pub coded-requires : goal.coded-requires
coded-requires c =
    let p = c.requires in
    (search rules, omega (arith, c.from-from.ensures, p.0.checks.framed.start_below))

pub item-requires : goal.item-requires
item-requires c =
    let p = c.requires in
    let F = p.0.checks.framed in
    omega (arith, cost_low p.1 F.start_below F.some c.from-from.ensures)

pub loop-b-init : goal.loop-b-init
loop-b-init c =
    let p = c.requires in
    let F = p.0.checks.framed in (
      kept_start p.1 c.args.slots.now F.start_below F.some p.2 p.4 p.5 c.from-from.ensures
          (c.item.ensures ∙ ap (item_of (get_or c.args.costs.now c.from-from.result 0)) c.coded.ensures),
      search rules,
      room_start,
    )

pub offset_bounds-views-i : goal.offset_bounds-views-i
offset_bounds-views-i c =
    let A = held_at c.requires.0 c.loop-b-test.true c.from-i.ensures in
    omega (arith, A.index_lt, A.few)

pub bounds-views-i : goal.bounds-views-i
bounds-views-i c =
    let A = held_at c.requires.0 c.loop-b-test.true c.from-i.ensures in
    omega (arith, A.index_lt, A.few)

pub offset_bounds-starts-i : goal.offset_bounds-starts-i
offset_bounds-starts-i c =
    let A = held_at c.requires.0 c.loop-b-test.true c.from-i.ensures in
    omega (arith, A.index_lt, A.few)

pub bounds-starts-i : goal.bounds-starts-i
bounds-starts-i c =
    let A = held_at c.requires.0 c.loop-b-test.true c.from-i.ensures in
    omega (arith, A.index_lt, A.few)

pub offset_bounds-received-b : goal.offset_bounds-received-b
offset_bounds-received-b c =
    let A = held_at c.requires.0 c.loop-b-test.true c.from-i.ensures in
    omega (arith, A.index_lt, A.few)

pub bounds-received-b : goal.bounds-received-b
bounds-received-b c =
    let F = c.requires.0.checks.framed in
    omega (arith, c.loop-b-test.true, F.received_long, F.erased_long)

pub bounds-erased-b : goal.bounds-erased-b
bounds-erased-b c =
    let F = c.requires.0.checks.framed in
    omega (arith, c.loop-b-test.true, F.received_long, F.erased_long)

pub left_behind-left-requires : goal.left_behind-left-requires
left_behind-left-requires c =
    let p = c.requires in
    (p.0.checks.framed.many, c.loop-b-test.true, p.1.long, c.ends_in-ends.ensures.long)

pub offset_bounds-sections-first : goal.offset_bounds-sections-first
offset_bounds-sections-first c =
    let A = held_at c.requires.0 c.loop-b-test.true c.from-i.ensures in
    omega (arith, A.inside, c.well_formed.0)

pub slice_bounds-numbers-count : goal.slice_bounds-numbers-count
slice_bounds-numbers-count c =
    let A = held_at c.requires.0 c.loop-b-test.true c.from-i.ensures in
    omega (arith, A.inside)

pub slice_bounds-numbers-start : goal.slice_bounds-numbers-start
slice_bounds-numbers-start c =
    let A = held_at c.requires.0 c.loop-b-test.true c.from-i.ensures in
    omega (arith, A.inside)

pub through_block-grown-requires : goal.through_block-grown-requires
through_block-grown-requires c =
    let p = c.requires in
    let I = c.loop-b.invariant in
    let h = c.loop-b-test.true in
    let i = c.from-i.ensures in
    let A = held_at p.0 h i in
    let L = c.left_behind-left.ensures in
    let B = block_ready p.0 p.1 c.ends_in-ends.ensures c.from.ensures h i L p.3 I.0 in (
      A.seen,
      L.long,
      A.few,
      p.2,
      p.3,
      I.0.few,
      I.1,
      I.0.are.long,
      I.0.are.noted.long,
      I.2,
      B.enterable,
      B.passable,
    )

pub loop-b-preserved : goal.loop-b-preserved
loop-b-preserved c =
    let p = c.requires in
    let I = c.loop-b.invariant in
    let h = c.loop-b-test.true in
    let i = c.from-i.ensures in
    let L = c.left_behind-left.ensures in
    let done = c.through_block-grown.ensures in
    (block_kept p.0 p.1 c.ends_in-ends.ensures c.from.ensures h i L p.3 I.0 done.0, done.1, done.2)

pub returns : goal.returns
returns c = kept_end c.loop-b.invariant.0 c.loop-b-test.false
