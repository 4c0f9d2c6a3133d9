-- `outer_depths::put_outer` writes the row of depth 0 and the row of depth n, which lie apart, and sets their two counts.
use native.Mathlib.Omega.{arith}
use Rattle.outer_depths.proofs.OuterRows.{first_room, last_fits, last_room, put}
use Rattle.outer_depths.proofs.put_outer.Goals as goal

pub put_depth-first-requires : goal.put_depth-first-requires
put_depth-first-requires c = (c.requires.few_roots, first_room c.requires)

pub overflow_mul-n : goal.overflow_mul-n
overflow_mul-n c = omega (arith, last_fits c.requires)

pub put_depth-last-requires : goal.put_depth-last-requires
put_depth-last-requires c = (c.requires.few_goals, last_room c.requires c.put_depth-first.ensures)

pub returns : goal.returns
returns c = put c.requires c.put_depth-first.ensures c.put_depth-last.ensures
