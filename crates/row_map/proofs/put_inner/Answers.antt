-- `row_map::put_inner` puts the inner depths one behind another: the loop keeps that those before t stand.
use Rattle.row_map.proofs.AllDepths.{inner_none, inner_room, inner_asked, inner_next, inner_end}
use borrow.Author.Rules.{rules}
use Rattle.row_map.proofs.put_inner.Goals as goal

pub loop-t-init : goal.loop-t-init
loop-t-init c = (inner_none _ _ _ _ _ _, search rules)

pub overflow_mul-t : goal.overflow_mul-t
overflow_mul-t c = search (rules, inner_room c.requires c.loop-t.invariant.0 (search rules))

pub put_depth-requires : goal.put_depth-requires
put_depth-requires c = inner_asked c.requires c.loop-t.invariant.0 (search rules) (search rules)

pub loop-t-preserved : goal.loop-t-preserved
loop-t-preserved c = (inner_next c.requires c.loop-t.invariant.0 (search rules) c.put_depth.ensures, search rules)

pub returns : goal.returns
returns c = inner_end c.requires c.loop-t.invariant.0 (search rules) (search rules)
