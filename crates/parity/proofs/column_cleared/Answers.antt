-- `parity::column_cleared` adds z where bit p is set: the bit is the lowest one of y without its last p bits.
use Rattle.parity.proofs.Columns.{column_by}
use Rattle.parity.proofs.column_cleared.Goals as goal

pub returns : goal.returns
returns c = column_by _ _ _ c.bit_at.ensures c.picked.ensures
