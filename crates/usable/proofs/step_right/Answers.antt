-- `usable::step_right` meets its contract: the edges that it hands over are those of the step, and what is asked of them is what
-- usable asks of the step.
use Rattle.usable.proofs.Steps.{step_read, step_there, step_is}
use Rattle.usable.proofs.step_right.Goals as goal

pub edges_right-requires : goal.edges_right-requires
edges_right-requires c =
    step_there (step_read c.requires c.number.ensures c.from-count.ensures
    c.number-2.ensures c.from-froms.ensures c.number-3.ensures c.from-tos.ensures c.from.ensures)

pub returns : goal.returns
returns c =
    step_is (step_read c.requires c.number.ensures c.from-count.ensures
    c.number-2.ensures c.from-froms.ensures c.number-3.ensures c.from-tos.ensures c.from.ensures) c.edges_right.ensures
