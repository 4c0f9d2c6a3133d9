-- `cost_table::ends_in` has 0 in the end state, and elsewhere the number for no path.
use Rattle.cost_table.proofs.Rows.{ends_put}
use Rattle.cost_table.proofs.ends_in.Goals as goal

pub returns : goal.returns
returns c = ends_put c.requires
