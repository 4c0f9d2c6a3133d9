-- `row_edges::put_all_symbols` writes the symbols of one step after another: the loop keeps what is written of the steps so far.
use native.Mathlib.Omega.{arith}
use borrow.Author.Rules.{rules}
use Rattle.row_edges.proofs.AllPieces.{all_none, lent_inside, lent_room, all_next, all_end, symbols_size}
use Rattle.row_edges.proofs.put_all_symbols.Goals as goal

pub loop-t-init : goal.loop-t-init
loop-t-init c = all_none _ _ _ _ _ _ _ _

pub overflow_add-hi : goal.overflow_add-hi
overflow_add-hi c = omega (arith, lent_inside c.requires c.loop-t.invariant (search rules) c.from.ensures)

pub offset_bounds-edges-lo : goal.offset_bounds-edges-lo
offset_bounds-edges-lo c = search (rules, lent_inside c.requires c.loop-t.invariant (search rules) c.from.ensures)

pub slice_bounds-put_symbols-end : goal.slice_bounds-put_symbols-end
slice_bounds-put_symbols-end c = omega (arith, lent_inside c.requires c.loop-t.invariant (search rules) c.from.ensures)

pub put_symbols-to-requires : goal.put_symbols-to-requires
put_symbols-to-requires c = (c.requires.short _, omega (arith, lent_room c.requires c.loop-t.invariant (search rules) c.from.ensures))

pub loop-t-preserved : goal.loop-t-preserved
loop-t-preserved c = all_next c.requires c.loop-t.invariant (search rules) c.from.ensures symbols_size c.put_symbols-to.ensures

pub returns : goal.returns
returns c = all_end c.loop-t.invariant (search rules)
