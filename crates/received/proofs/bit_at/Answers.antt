-- `received::bit_at` shifts the symbol's bit to the end and masks the others away.
use mathlib.Core.Path.{◌∙◌}
use Rattle.trellis.specs.Comparing.{marked_at}
use Rattle.trellis.proofs.Bools.{one_if_le}
use Rattle.received.proofs.Fitting.{bit_at}
use Rattle.received.proofs.bit_at.Goals as goal

pub returns : goal.returns
returns c =
    let a = c.args in
    let e = c.from.ensures ∙ bit_at a.n a.t a.mask in
    (e, rw e (one_if_le (marked_at a.n a.t a.mask)))
