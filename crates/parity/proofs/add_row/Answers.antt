-- `parity::add_row` clears one column after another: the loop keeps which are done, and that the others are as before.
use borrow.Author.Rules.{rules}
use Rattle.parity.proofs.Columns.{mapped_none, mapped_next, mapped_all}
use Rattle.parity.proofs.add_row.Goals as goal

pub loop-column-init : goal.loop-column-init
loop-column-init c = (mapped_none _ _, search rules)

pub loop-column-preserved : goal.loop-column-preserved
loop-column-preserved c = (mapped_next c.loop-column.invariant.0 (search rules) c.column_cleared.ensures, search rules)

pub returns : goal.returns
returns c = mapped_all _ _ c.loop-column.invariant.0 (search rules)
