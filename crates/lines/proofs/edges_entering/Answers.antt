-- `lines::edges_entering` reads how many edges the step before depth t has; no edge enters depth 0.
use Rattle.lines.proofs.Lines.{entering_none, entering_some}
use Rattle.lines.proofs.edges_entering.Goals as goal

pub returns-then-t-eq0 : goal.returns-then-t-eq0
returns-then-t-eq0 c = entering_none c.args.sizes.now c.args.t c.if-t-eq0.true

pub returns : goal.returns
returns c =
    entering_some c.args.sizes.now c.args.n c.args.t _ _ c.requires.0 c.if-t-eq0.false
    c.number.ensures c.from.ensures
