-- `parity::take_up` returns at once by syndrome 0; else it adds the row by the highest bit, which is one of 16.
use mathlib.Core.Path.{refl}
use Rattle.parity.specs.Inner.Steps.{same, more}
use Rattle.parity.proofs.take_up.Goals as goal

pub returns-then-z-eq0 : goal.returns-then-z-eq0
returns-then-z-eq0 c = same c.if-z-eq0.true refl

pub returns : goal.returns
returns c = more c.highest-p.result c.highest-p.ensures c.add_row.ensures
