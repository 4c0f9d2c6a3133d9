-- `passes::put_goals_side` takes the array of depth n's parity.
use borrow.Author.Rules.{rules}
use Rattle.passes.proofs.Ends.{goals_even, goals_odd}
use Rattle.passes.proofs.put_goals_side.Goals as goal

pub returns-then-section-eq0 : goal.returns-then-section-eq0
returns-then-section-eq0 c = (goals_even c.requires _ c.if-section-eq0.true c.put_goals.ensures, c.put_goals.ensures.long, search rules)

pub returns : goal.returns
returns c = (goals_odd c.requires _ c.if-section-eq0.false c.put_goals-2.ensures, search rules, c.put_goals-2.ensures.long)
