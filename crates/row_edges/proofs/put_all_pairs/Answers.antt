-- `row_edges::put_all_pairs` writes the pairs of one step after another: the loop keeps what is written of the steps so far.
use native.Mathlib.Omega.{arith}
use borrow.Author.Rules.{rules}
use Rattle.row_edges.proofs.AllPieces.{all_none, lent_inside, lent_room, all_next, all_end, pairs_size}
use Rattle.row_edges.proofs.put_all_pairs.Goals as goal

pub loop-t-init : goal.loop-t-init
loop-t-init c = all_none _ _ _ _ _ _ _ _

pub overflow_add-hi : goal.overflow_add-hi
overflow_add-hi c = omega (arith, lent_inside c.requires c.loop-t.invariant (search rules) c.from.ensures)

pub offset_bounds-edges-lo : goal.offset_bounds-edges-lo
offset_bounds-edges-lo c = search (rules, lent_inside c.requires c.loop-t.invariant (search rules) c.from.ensures)

pub slice_bounds-put_pairs-end : goal.slice_bounds-put_pairs-end
slice_bounds-put_pairs-end c = omega (arith, lent_inside c.requires c.loop-t.invariant (search rules) c.from.ensures)

pub put_pairs-to-requires : goal.put_pairs-to-requires
put_pairs-to-requires c = (c.requires.short _, lent_room c.requires c.loop-t.invariant (search rules) c.from.ensures)

pub loop-t-preserved : goal.loop-t-preserved
loop-t-preserved c = all_next c.requires c.loop-t.invariant (search rules) c.from.ensures pairs_size c.put_pairs-to.ensures

pub returns : goal.returns
returns c = all_end c.loop-t.invariant (search rules)
