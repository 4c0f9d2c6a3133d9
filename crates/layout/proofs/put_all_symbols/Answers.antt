-- `layout::put_all_symbols` writes the symbols of one step after another: the loop keeps what is written of the steps so far.
use native.Mathlib.Omega.{arith}
use borrow.Author.Rules.{rules}
use Rattle.layout.proofs.AllPieces.{all_none, all_room, symbols_more, step_words}
use Rattle.layout.proofs.put_all_symbols.Goals as goal

pub loop-t-init : goal.loop-t-init
loop-t-init c = all_none _ _ _ _ _ _ _

pub overflow_add-lo : goal.overflow_add-lo
overflow_add-lo c = omega (arith, (step_words c.requires.1 (search rules) c.loop-t.invariant.lo_is c.from-count.ensures).inside)

pub put_symbols-to-requires : goal.put_symbols-to-requires
put_symbols-to-requires c = (
  step_words c.requires.1 (search rules) c.loop-t.invariant.lo_is c.from-count.ensures,
  omega (arith, all_room c.requires.1 c.loop-t.invariant (search rules) c.from-count.ensures c.requires.2),
)

pub overflow_add-lo-in-loop-t : goal.overflow_add-lo-in-loop-t
overflow_add-lo-in-loop-t c = omega (arith, (step_words c.requires.1 (search rules) c.loop-t.invariant.lo_is c.from-count.ensures).inside)

pub loop-t-preserved : goal.loop-t-preserved
loop-t-preserved c = symbols_more c.requires.1 c.loop-t.invariant (search rules) c.from-count.ensures c.put_symbols-to.ensures
