-- `settling::copy_row` writes the row over the front of the place.
use Rattle.settling.proofs.Settling.{row_copied}
use Rattle.settling.proofs.copy_row.Goals as goal

pub returns : goal.returns
returns c = row_copied c.requires.0 c.requires.1 c.copy_from_slice.ensures.after
