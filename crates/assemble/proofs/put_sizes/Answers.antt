-- `assemble::put_sizes` writes q, n and S, the counts of vertices and the counts of edges one behind another.
use Rattle.assemble.proofs.SectionParts.{room_edges, all_sizes}
use borrow.Author.Rules.{rules}
use Rattle.assemble.proofs.put_sizes.Goals as goal

pub put_numbers-requires : goal.put_numbers-requires
put_numbers-requires c = (search rules, room_edges c.requires c.put_header-at.ensures c.put_numbers-at.ensures)

pub returns : goal.returns
returns c = all_sizes c.requires c.put_header-at.ensures c.put_numbers-at.ensures c.put_numbers.ensures
