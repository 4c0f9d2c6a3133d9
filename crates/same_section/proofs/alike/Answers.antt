-- `same_section::alike` meets its contract: each call of the closure answers whether the two numbers at one place are the same.
use mathlib.Core.Path.{refl}
use lib.Dec.{eqb}
use lib.ListN.{get_or}
use borrow.Author.Rules.{rules}
use borrow.Author.Tests.{tests}
use Rattle.edges.proofs.Ranges.{all_from_range}
use Rattle.same_section.proofs.alike.Goals as goal

pub returns : goal.returns
returns c =
    all_from_range (λ i. eqb (get_or c.args.a.now i 0) (get_or c.args.b.now i 0)) _ _ _ c.all.ensures.ran refl
    (λ x b q k. search (rules, tests))
