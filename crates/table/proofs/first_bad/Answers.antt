-- `table::first_bad` meets its contract. The loop's invariant: no word passed is bad. A word that is bad is then the first, and where the
-- loop ends there is none.
use mathlib.Core.Path.{sym, ap, ◌∙◌}
use borrow.Author.Rules.{rules}
use Rattle.std.specs.Prelude.{Some}
use Rattle.table.proofs.Search.{clear_next, clear_found, clear_all}
use Rattle.table.proofs.Checks.{word_bad_is}
use Rattle.table.proofs.first_bad.Goals as goal

pub returns-then-word_outside : goal.returns-then-word_outside
returns-then-word_outside c =
    ap Some c.from.ensures
    ∙ clear_found c.loop-i.invariant (search rules) (sym (word_bad_is _ _ c.byte_at-q.ensures c.byte_at-n.ensures c.byte_at-states.ensures
    c.word_through.ensures c.word_outside.ensures) ∙ c.if-word_outside.true)

pub loop-i-preserved : goal.loop-i-preserved
loop-i-preserved c =
    clear_next c.loop-i.invariant (sym (word_bad_is _ _ c.byte_at-q.ensures c.byte_at-n.ensures c.byte_at-states.ensures
    c.word_through.ensures c.word_outside.ensures) ∙ c.if-word_outside.false)

pub returns : goal.returns
returns c = clear_all c.loop-i.invariant (search rules)
