-- `beginnings::leave` goes over the items. The loop's invariant: those passed have left, each with its back pointer, and no other back
-- pointer has changed.
use borrow.Author.Rules.{rules}
use native.Mathlib.Omega.{arith}
use lib.ListN.{get_or}
use Rattle.beginnings.proofs.Leaving.{from_small, goal_inside, goal_small, left_slot_lem, left_code_lem, left_start, left_more, left_all}
use Rattle.beginnings.proofs.leave.Goals as goal

pub loop-j-init : goal.loop-j-init
loop-j-init c = (search rules, left_start (search rules) (search rules))

pub overflow_add-goals : goal.overflow_add-goals
overflow_add-goals c =
    omega (arith, goal_inside c.args.goals _ c.code_of-c.ensures c.vertex_of.ensures (c.requires.5.inside c.loop-j.j c.loop-j-test.true))

pub offset_bounds-s-goals : goal.offset_bounds-s-goals
offset_bounds-s-goals c =
    omega (arith, goal_inside c.args.goals _ c.code_of-c.ensures c.vertex_of.ensures (c.requires.5.inside c.loop-j.j c.loop-j-test.true))

pub bounds-s-goals : goal.bounds-s-goals
bounds-s-goals c =
    omega (arith, goal_inside c.args.goals _ c.code_of-c.ensures c.vertex_of.ensures (c.requires.5.inside c.loop-j.j c.loop-j-test.true))

pub coded-requires : goal.coded-requires
coded-requires c =
    let j = c.loop-j.j in
    let g
    = goal_small c.args.s.now c.args.goals (get_or c.args.items.now j 0) c.code_of-c.ensures
    c.vertex_of.ensures c.from-state.ensures (c.requires.5.small j c.loop-j-test.true) in
    (search rules, omega (arith, g))

pub coded-requires-in-loop-j : goal.coded-requires-in-loop-j
coded-requires-in-loop-j c =
    let j = c.loop-j.j in
    let h = c.loop-j-test.true in
    let x = get_or c.args.items.now j 0 in
    let f = from_small x c.code_of-c.ensures c.root_of.ensures (c.requires.5.of j h) in
    let g
    = goal_small c.args.s.now c.args.goals x c.code_of-c.ensures c.vertex_of.ensures
    c.from-state.ensures (c.requires.5.small j h) in
    (f, omega (arith, g))

pub loop-j-preserved : goal.loop-j-preserved
loop-j-preserved c =
    let j = c.loop-j.j in
    let s = c.args.s.now in
    let goals = c.args.goals in
    let x = get_or c.args.items.now j 0 in (
      search rules,
      left_more c.loop-j.invariant.1 (search rules) (search rules)
          (left_slot_lem s goals x c.code_of-c.ensures c.vertex_of.ensures c.from-state.ensures j
          c.cost_of.ensures.0 c.coded.ensures c.item.ensures)
          (left_code_lem s goals x c.code_of-c.ensures c.vertex_of.ensures c.from-state.ensures
          c.root_of.ensures c.label_of.ensures c.coded-in-loop-j.ensures),
    )

pub returns : goal.returns
returns c = left_all c.loop-j.invariant.1 c.loop-j.invariant.0 c.loop-j-test.false
