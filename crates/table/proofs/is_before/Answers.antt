-- `table::is_before` meets its contract: the order that is derived compares root, label and goal in the order of the definition. Where the
-- roots are the same and the labels are not, labels decide, and their order as numbers is that of their symbols.
use mathlib.Core.Path.{◌≡◌, ◌∙◌}
use lib.Dec.{ltb}
use Rattle.std.proofs.Common.{arith}
use Rattle.std.proofs.lemmas.Bool.Decides.{nat_tests}
use Rattle.trellis.specs.Lists.{lower}
use Rattle.label.proofs.Order.{in_order}
use Rattle.table.proofs.is_before.Goals as goal

pub returns-clause-order : goal.returns-clause-order
unfolding lower
returns-clause-order c = c.lt.ensures ∙ grind (arith, nat_tests)

pub returns-clause-symbols : goal.returns-clause-symbols
returns-clause-symbols c e d =
    let decided : c.lt.result ≡ ltb c.args.v.label c.args.w.label = c.lt.ensures ∙ grind (arith, nat_tests, e, d) in
    rw decided (in_order _ _)
