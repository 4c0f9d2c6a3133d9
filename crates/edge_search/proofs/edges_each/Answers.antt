-- `edge_search::edges_each` meets its contract: there is a vertex, and a part of the edges is no more than all.
use native.Mathlib.Nat.{div-le_self, le_trans}
use Rattle.edge_search.proofs.edges_each.Goals as goal

pub returns : goal.returns
returns c = le_trans (div-le_self _ _) c.requires.3
