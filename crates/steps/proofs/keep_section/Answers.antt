-- `steps::keep_section` meets its contract. The loop's invariant: what is kept at depth t, and the steps that are left, give what is kept
-- in the end, and the limit is below the cost of no path.
use mathlib.Core.Path.{refl}
use Rattle.whole_section.proofs.Places.{counts_near, count_near, count_in, step_at}
use Rattle.steps.proofs.Depths.{deep_start, deep_here, deep_room, deep_each, deep_next, deep_all}
use borrow.Author.Rules.{rules, Fits-under}
use Rattle.steps.proofs.keep_section.Goals as goal

pub loop-t-init : goal.loop-t-init
loop-t-init c = let p = c.requires in (deep_start p.0 p.3 (search rules), p.5)

pub overflow_add-n : goal.overflow_add-n
overflow_add-n c = Fits-under _ _ 13 (counts_near c.requires.0) tt

pub overflow_add-n-in-loop-t : goal.overflow_add-n-in-loop-t
overflow_add-n-in-loop-t c = Fits-under _ _ 21 (count_near c.requires.0 c.loop-t-test.true) tt

pub offset_bounds-l-n : goal.offset_bounds-l-n
offset_bounds-l-n c = search (rules, count_near c.requires.0 c.loop-t-test.true)

pub bounds-l-n : goal.bounds-l-n
bounds-l-n c = search (rules, count_in c.requires.0 c.loop-t-test.true)

pub edges_each-each-requires : goal.edges_each-each-requires
edges_each-each-requires c = deep_each c.requires.0 c.loop-t.invariant.0 c.loop-t-test.true refl (c.from-count.ensures, search rules)

pub offset_bounds-l-pairs : goal.offset_bounds-l-pairs
offset_bounds-l-pairs c = search (rules, deep_here c.requires.0 c.loop-t.invariant.0 c.loop-t-test.true c.from-count.ensures (search rules))

pub slice_bounds-step-count : goal.slice_bounds-step-count
slice_bounds-step-count c = search (rules, deep_here c.requires.0 c.loop-t.invariant.0 c.loop-t-test.true c.from-count.ensures (search rules))

pub slice_bounds-step-start : goal.slice_bounds-step-start
slice_bounds-step-start c = search (rules, deep_here c.requires.0 c.loop-t.invariant.0 c.loop-t-test.true c.from-count.ensures (search rules))

pub offset_bounds-l-symbols : goal.offset_bounds-l-symbols
offset_bounds-l-symbols c = search (rules, deep_here c.requires.0 c.loop-t.invariant.0 c.loop-t-test.true c.from-count.ensures (search rules))

pub slice_bounds-step-count-in-loop-t : goal.slice_bounds-step-count-in-loop-t
slice_bounds-step-count-in-loop-t c = search (rules, deep_here c.requires.0 c.loop-t.invariant.0 c.loop-t-test.true c.from-count.ensures (search rules))

pub slice_bounds-step-start-in-loop-t : goal.slice_bounds-step-start-in-loop-t
slice_bounds-step-start-in-loop-t c = search (rules, deep_here c.requires.0 c.loop-t.invariant.0 c.loop-t-test.true c.from-count.ensures (search rules))

pub keep_step-held-requires : goal.keep_step-held-requires
keep_step-held-requires c =
    let p = c.requires in let i = c.loop-t.invariant in (
      (step_at p.0 i.0.places c.loop-t-test.true refl (c.from-count.ensures, search rules)).edges,
      deep_room p.0 i.0 c.loop-t-test.true p.1 p.2 (search rules) p.4,
      i.0.most,
      c.edges_each-each.ensures,
      i.1,
    )

pub limit_of-requires : goal.limit_of-requires
limit_of-requires c = (c.keep_step-held.ensures.kept, c.requires.2)

pub overflow_add-pairs : goal.overflow_add-pairs
overflow_add-pairs c = search (rules, deep_here c.requires.0 c.loop-t.invariant.0 c.loop-t-test.true c.from-count.ensures (search rules))

pub overflow_add-symbols : goal.overflow_add-symbols
overflow_add-symbols c = search (rules, deep_here c.requires.0 c.loop-t.invariant.0 c.loop-t-test.true c.from-count.ensures (search rules))

pub loop-t-preserved : goal.loop-t-preserved
loop-t-preserved c =
    let s = c.keep_step-held.ensures in
    let d = deep_next c.requires.0 c.loop-t.invariant.0 c.loop-t-test.true refl (c.from-count.ensures, search rules) s in
    (d, c.limit_of.ensures)

pub returns : goal.returns
returns c =
    let i = c.loop-t.invariant in
    (deep_all c.requires.0 i.0 c.loop-t-test.false, i.1)
