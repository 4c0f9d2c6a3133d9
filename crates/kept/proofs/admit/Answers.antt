-- `kept::admit`, by its three cases: fewer than k are kept and the candidate goes behind them; the last dearest costs no more than it, and
-- all stays; or the last dearest goes out and the candidate goes behind the others. Then those from the freed place on cost less than the
-- one that went, and none costs more, so that the next last dearest is looked for in front of that place.
use borrow.Author.Rules.{rules}
use Rattle.kept.proofs.Admitting.{worst_inside, admit_more, admit_skip, swap_cheaper, admit_swap}
use Rattle.kept.proofs.admit.Goals as goal

pub returns-then-count-k : goal.returns-then-count-k
returns-then-count-k c = admit_more c.if-count-k.true (search rules) (search rules) c.counted.ensures.0 c.counted.ensures.1

pub offset_bounds-items-worst : goal.offset_bounds-items-worst
offset_bounds-items-worst c = let w = worst_inside c.requires.2 c.if-count-k.false in search rules

pub bounds-items-worst : goal.bounds-items-worst
bounds-items-worst c = let w = worst_inside c.requires.2 c.if-count-k.false in search rules

pub returns-then-cost-cost_of : goal.returns-then-cost-cost_of
returns-then-cost-cost_of c =
    admit_skip c.requires.2 c.if-count-k.false (search rules) c.cost_of-cost.ensures.0 c.cost_of.ensures.0
    c.if-cost-cost_of.true

pub close_up-requires : goal.close_up-requires
close_up-requires c =
    let w = worst_inside c.requires.2 c.if-count-k.false in
    search rules

pub dearest_before-next-requires : goal.dearest_before-next-requires
dearest_before-next-requires c =
    let K = c.requires.2 in
    let less = c.if-cost-cost_of.false in
    let C = c.close_up.ensures in (
      swap_cheaper _ K c.if-count-k.false (search rules) c.cost_of-cost.ensures.0 c.cost_of.ensures.0 less C,
      search rules,
    )

pub returns : goal.returns
returns c =
    admit_swap _ c.requires.2 c.if-count-k.false (search rules) c.cost_of-cost.ensures.0 c.cost_of.ensures.0
    c.if-cost-cost_of.false c.close_up.ensures c.dearest_before-next.ensures
