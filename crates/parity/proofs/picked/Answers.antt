-- `parity::picked` gives what a bit chooses: each branch is one case of the definition.
use Rattle.parity.proofs.Columns.{picked_none, picked_all}
use Rattle.parity.proofs.picked.Goals as goal

pub returns-then-bit-eq0 : goal.returns-then-bit-eq0
returns-then-bit-eq0 c = picked_none _ _ c.if-bit-eq0.true

pub returns-else-bit-eq0 : goal.returns-else-bit-eq0
returns-else-bit-eq0 c = picked_all _ _ c.if-bit-eq0.false
