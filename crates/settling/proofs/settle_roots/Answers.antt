-- `settling::settle_roots` goes over the roots. The loop's invariant: the roots passed have their costs, and the other states what they
-- had; and the roots stand where they were looked for.
use borrow.Author.Rules.{rules}
use Rattle.settling.proofs.Settling.{counts_there, roots_read, roots_start, state_lt, still_fits, roots_more, roots_end}
use Rattle.settling.proofs.settle_roots.Goals as goal

pub bounds-l-1 : goal.bounds-l-1
bounds-l-1 c = search (rules, counts_there c.requires.0)

pub bounds-l-3 : goal.bounds-l-3
bounds-l-3 c = search (rules, counts_there c.requires.0)

pub loop-v-init : goal.loop-v-init
loop-v-init c = (roots_start c.requires.1, search rules, roots_read c.requires.0 c.from.ensures c.from-count.ensures)

pub overflow_add-roots-in-loop-v : goal.overflow_add-roots-in-loop-v
overflow_add-roots-in-loop-v c = search (rules, c.loop-v.invariant.2.near)

pub offset_bounds-l-roots : goal.offset_bounds-l-roots
offset_bounds-l-roots c = search (rules, c.loop-v.invariant.2.near)

pub bounds-l-roots : goal.bounds-l-roots
bounds-l-roots c = search (rules, c.loop-v.invariant.2.inside)

pub offset_bounds-row-s : goal.offset_bounds-row-s
offset_bounds-row-s c =
    let I = c.loop-v.invariant in
    search (rules, state_lt I.2 I.0 c.loop-v-test.true c.from-s.ensures)

pub bounds-row-s : goal.bounds-row-s
bounds-row-s c =
    let I = c.loop-v.invariant in
    search (rules, state_lt I.2 I.0 c.loop-v-test.true c.from-s.ensures, I.0.long)

pub settled-requires : goal.settled-requires
settled-requires c =
    let I = c.loop-v.invariant in
    let O = c.requires.1 in
    (O.behind_long, still_fits I.2 I.0 c.loop-v-test.true c.from-s.ensures O)

pub offset_bounds-row-s-in-loop-v : goal.offset_bounds-row-s-in-loop-v
offset_bounds-row-s-in-loop-v c =
    let I = c.loop-v.invariant in
    search (rules, state_lt I.2 I.0 c.loop-v-test.true c.from-s.ensures)

pub bounds-row-s-in-loop-v : goal.bounds-row-s-in-loop-v
bounds-row-s-in-loop-v c =
    let I = c.loop-v.invariant in
    search (rules, state_lt I.2 I.0 c.loop-v-test.true c.from-s.ensures, I.0.long)

pub loop-v-preserved : goal.loop-v-preserved
loop-v-preserved c =
    let I = c.loop-v.invariant in (
      roots_more I.2 I.0 c.loop-v-test.true c.from-s.ensures c.settled.ensures,
      search rules,
      I.2,
    )

pub returns : goal.returns
returns c = let I = c.loop-v.invariant in roots_end I.2 I.0 (search rules) I.1
