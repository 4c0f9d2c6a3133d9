-- `lines::put_depths` puts a line for each depth. The loop's invariant: the lines of the depths passed are put.
use native.Mathlib.Omega.{arith}
use Rattle.lines.proofs.Lines.{depths_start, depths_next, depths_all}
use Rattle.lines.proofs.put_depths.Goals as goal

pub loop-t-init : goal.loop-t-init
loop-t-init c = depths_start

pub loop-t-preserved : goal.loop-t-preserved
loop-t-preserved c =
    depths_next c.loop-t.invariant c.loop-t-test.true c.number.ensures c.from.ensures
    c.edges_entering.ensures c.put_line-end.ensures

pub returns : goal.returns
returns c = depths_all c.loop-t.invariant c.loop-t-test.false

pub returns-2 : goal.returns-2
returns-2 c =
    depths_all
    (depths_next c.loop-t.invariant c.loop-t-test.true c.number.ensures c.from.ensures
    c.edges_entering.ensures c.put_line-end.ensures) (omega arith)
