-- `received::is_clear` asks that no symbol is stray: either none is, or the first that is stands below n.
use mathlib.Core.Path.{◌≡◌, refl}
use mathlib.Core.Bool.{true, false}
use borrow.Author.Rules.{rules}
use Rattle.std.proofs.Common.{tests, arith}
use Rattle.std.proofs.lemmas.Iterator.{cases_from_all, YieldsList-from_range}
use Rattle.received.specs.Received.{stray}
use Rattle.received.proofs.Fitting.{clear_is}
use Rattle.received.proofs.is_clear.Goals as goal

pub returns : goal.returns
returns c =
    let a = c.args in
    clear_is a.n a.received a.erased c.all.result
    (cases_from_all _ _ c.all.result (λ t. stray a.n a.received a.erased t ≡ false) (λ t. stray a.n a.received a.erased t ≡ true)
    c.all.ensures.ran (YieldsList-from_range 0 a.n a.n refl (omega arith)) (λ x q k. search (rules, tests)) (λ x q k. search (rules, tests)))
