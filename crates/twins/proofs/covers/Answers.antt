-- `twins::covers` meets its contract: each call of the closure answers whether one vertex is marked.
use mathlib.Core.Path.{refl}
use mathlib.Core.Bool.{not}
use lib.Dec.{eqb}
use lib.ListN.{get_or}
use borrow.Author.Rules.{rules}
use borrow.Author.Tests.{tests}
use Rattle.edges.proofs.Ranges.{all_from_range}
use Rattle.twins.proofs.Marking.{covered_by}
use Rattle.twins.proofs.covers.Goals as goal

pub returns : goal.returns
returns c =
    covered_by c.marks-marks.ensures (search rules)
    (all_from_range (λ v. not (eqb (get_or c.marks-marks.result v 0) 0)) _ _ _ c.all.ensures.ran refl (λ x b q k. search (rules, tests)))
