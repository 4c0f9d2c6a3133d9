-- `passes::put_goals` goes over the goals. The loop's invariant: the places passed have what is left to pay in the states of their goals.
use borrow.Author.Rules.{rules}
use Rattle.section_file.proofs.Seen.{goals_at}
use Rattle.passes.proofs.Ends.{goals_start, goals_more, goals_end}
use Rattle.passes.proofs.put_goals.Goals as goal

pub overflow_sub-count : goal.overflow_sub-count
overflow_sub-count c = (goals_at c.requires).le

pub loop-g-init : goal.loop-g-init
loop-g-init c = goals_start (search rules)

pub overflow_add-goals : goal.overflow_add-goals
overflow_add-goals c = search (rules, goals_at c.requires)

pub offset_bounds-l-goals : goal.offset_bounds-l-goals
offset_bounds-l-goals c = search (rules, goals_at c.requires)

pub bounds-l-goals : goal.bounds-l-goals
bounds-l-goals c = search (rules, goals_at c.requires)

pub loop-g-preserved : goal.loop-g-preserved
loop-g-preserved c =
    goals_more c.requires c.loop-g.invariant c.loop-g-test.true c.from-s.ensures c.ranked_left.ensures.0
    c.ranked_left.ensures.1

pub returns : goal.returns
returns c = goals_end c.requires c.loop-g.invariant (search rules)
