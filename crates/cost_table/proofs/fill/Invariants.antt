-- `cost_table::fill` passes the blocks from the last to the first. The loop's invariant: what is left to pay and the notes are those of the
-- chain from block b on.
use Rattle.cost_table.specs.Inner.Filled.{held_blocks}
use Rattle.cost_table.proofs.Tables.{InFill}
use Rattle.cost_table.proofs.fill.Given as goal

abbrev pub invariant-loop-b : goal.invariant-loop-b
invariant-loop-b l = InFill (held_blocks l.sections l.starts l.views l.indices l.received l.erased) l.initial.left l.initial.costs l.costs l.left l.prices l.even l.odd l.b
