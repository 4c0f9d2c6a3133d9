-- `partners::end_for` meets its contract: it reads the place that the definition names.
use mathlib.Core.Path.{refl}
use Rattle.partners.proofs.Carrying.{end_read}
use Rattle.partners.proofs.end_for.Goals as goal

pub returns : goal.returns
returns c =
    let a = c.args in
    end_read a.ends.now a.matched.now a.e.from a.e.symbol c.from-partner.ensures refl
