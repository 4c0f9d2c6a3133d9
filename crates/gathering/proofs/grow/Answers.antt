-- `gathering::grow` meets its contract. The loop's invariant: the beginnings passed are put one step further.
use Rattle.gathering.proofs.Growing.{begins_of, growing_start, growing_next, growing_over, growing_all}
use borrow.Author.Rules.{rules}
use Rattle.gathering.proofs.grow.Goals as goal

pub loop-i-init : goal.loop-i-init
loop-i-init c = growing_start (search rules)

pub grow_one-requires : goal.grow_one-requires
grow_one-requires c = (
  search rules,
  begins_of _ c.starts_of-starts.ensures c.vertex_of.ensures c.from-start.ensures,
  c.loop-i.invariant.room,
  c.loop-i.invariant.long,
)

pub returns-in_err-made : goal.returns-in_err-made
returns-in_err-made c =
    rw c.from_residual.ensures (growing_over c.loop-i.invariant c.loop-i-test.true (search rules) c.in_err-made.ensures)

pub loop-i-preserved : goal.loop-i-preserved
loop-i-preserved c = growing_next c.loop-i.invariant c.loop-i-test.true (search rules) c.in_ok-made.ensures

pub returns : goal.returns
returns c = growing_all c.loop-i.invariant (search rules)
