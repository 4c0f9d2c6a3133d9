-- `table::first_not_above` meets its contract. The loop's invariant: every word passed is above the one before it, and the word kept is the
-- last one passed. Word 0 has none before it, so the loop starts behind it.
use mathlib.Core.Path.{ap, ◌∙◌}
use mathlib.Core.Bool.{not}
use borrow.Author.Rules.{rules}
use Rattle.std.specs.Prelude.{Some}
use Rattle.table.proofs.Checks.{ascending_start, ascending_next, ascending_found, ascending_all}
use Rattle.table.proofs.first_not_above.Goals as goal

pub loop-i-init : goal.loop-i-init
loop-i-init c = ascending_start c.word_through-earlier.ensures

pub returns-then-not-is_before : goal.returns-then-not-is_before
returns-then-not-is_before c =
    ap Some c.from.ensures
    ∙ ascending_found c.loop-i.invariant (search rules)
    c.word_through-here.ensures c.is_before.ensures.order (ap not c.if-not-is_before.true)

pub loop-i-preserved : goal.loop-i-preserved
loop-i-preserved c =
    ascending_next c.loop-i.invariant
    c.word_through-here.ensures c.is_before.ensures.order (ap not c.if-not-is_before.false)

pub returns : goal.returns
returns c = ascending_all c.loop-i.invariant (search rules)
