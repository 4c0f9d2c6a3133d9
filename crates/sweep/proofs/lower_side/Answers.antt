-- `sweep::lower_side` takes the array of the depth's own parity for its row, and the other for the row behind it.
use borrow.Author.Rules.{rules}
use Rattle.sweep.proofs.Sweeping.{asked_even, asked_odd, done_even, done_odd}
use Rattle.sweep.proofs.lower_side.Goals as goal

pub lower_depth-requires : goal.lower_depth-requires
lower_depth-requires c = (c.requires.0, asked_even c.if-t-eq0.true c.requires.1)

pub returns-then-t-eq0 : goal.returns-then-t-eq0
returns-then-t-eq0 c = (done_even _ _ c.if-t-eq0.true c.lower_depth.ensures, c.lower_depth.ensures.long, search rules)

pub lower_depth-requires-2 : goal.lower_depth-requires-2
lower_depth-requires-2 c = (c.requires.0, asked_odd c.if-t-eq0.false c.requires.1)

pub returns : goal.returns
returns c = (done_odd _ _ c.if-t-eq0.false c.lower_depth-2.ensures, search rules, c.lower_depth-2.ensures.long)
