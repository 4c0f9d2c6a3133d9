-- `least_rows::save_side` takes the array of the depth's own parity.
use Rattle.least_rows.proofs.Saving.{asked_even, asked_odd, saved_even, saved_odd}
use Rattle.least_rows.proofs.save_side.Goals as goal

pub save_row-requires : goal.save_row-requires
save_row-requires c = asked_even _ _ c.if-t-eq0.true c.requires

pub returns-then-t-eq0 : goal.returns-then-t-eq0
returns-then-t-eq0 c = saved_even _ _ c.if-t-eq0.true c.save_row.ensures

pub save_row-requires-2 : goal.save_row-requires-2
save_row-requires-2 c = asked_odd _ _ c.if-t-eq0.false c.requires

pub returns : goal.returns
returns c = saved_odd _ _ c.if-t-eq0.false c.save_row-2.ensures
