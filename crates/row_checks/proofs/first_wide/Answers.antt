-- `row_checks::first_wide` looks for the first wide row.
use mathlib.Core.Path.{◌∙◌}
use Prim.Native.Nat.{◌^◌}
use lib.Dec.{leb}
use Rattle.std.proofs.lemmas.Iterator.{YieldsList-from_slice}
use Rattle.std.proofs.lemmas.Iterator.Search.{position_from_yields_List}
use borrow.Author.Rules.{rules}
use borrow.Author.Tests.{tests}
use Rattle.row_checks.proofs.Checks.{found_wide}
use Rattle.row_checks.proofs.first_wide.Goals as goal

pub returns : goal.returns
returns c =
    position_from_yields_List (λ row. leb (2 ^ c.args.width) row) _ _ _ c.position.ensures.ran (YieldsList-from_slice c.args.rows.now cc)
    (λ x b q k. search (rules, tests))
    ∙ found_wide c.args.width c.args.rows.now
