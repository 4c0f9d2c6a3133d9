-- `settled::settled` adds the difference of the two remainders; what it asks says that the sum fits.
use borrow.Author.Rules.{rules}
use mathlib.Core.Path.{◌∙◌}
use Rattle.settled.proofs.Cost.{settled_by, settled_fits}
use Rattle.settled.proofs.settled.Goals as goal

pub overflow_add-result-2 : goal.overflow_add-result-2
overflow_add-result-2 c =
    let e = settled_fits _ _ c.requires.1 (c.from-goal.ensures ∙ c.goal_of.ensures) in
    search (rules, e)

pub returns : goal.returns
returns c = settled_by _ _ (c.from-goal.ensures ∙ c.goal_of.ensures)
