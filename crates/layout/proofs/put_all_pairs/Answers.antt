-- `layout::put_all_pairs` writes the pairs of one step after another: the loop keeps what is written of the steps so far.
use native.Mathlib.Omega.{arith}
use borrow.Author.Rules.{rules}
use Rattle.layout.proofs.AllPieces.{all_none, row_room, row_more, all_room, pairs_more, step_words}
use Rattle.layout.proofs.put_all_pairs.Goals as goal

pub loop-t-init : goal.loop-t-init
loop-t-init c = (all_none _ _ _ _ _ _ _, search rules)

pub overflow_add-lo : goal.overflow_add-lo
overflow_add-lo c = omega (arith, (step_words c.requires.1 (search rules) c.loop-t.invariant.0.lo_is c.from-count.ensures).inside)

pub put_pairs-to-requires : goal.put_pairs-to-requires
put_pairs-to-requires c = (
  step_words c.requires.1 (search rules) c.loop-t.invariant.0.lo_is c.from-count.ensures,
  row_room c.requires.0 c.loop-t.invariant.1 (search rules),
  omega (arith, all_room c.requires.1 c.loop-t.invariant.0 (search rules) c.from-count.ensures c.requires.2),
)

pub loop-t-preserved : goal.loop-t-preserved
loop-t-preserved c = (
  pairs_more c.requires.1 c.loop-t.invariant.0 (search rules) c.from-count.ensures c.loop-t.invariant.1
      c.put_pairs-to.ensures,
  row_more _ _ c.loop-t.invariant.1,
)
