-- `reduced_rows::reduced` goes through the columns: the loop keeps that the rows written and those of the columns left are all reduced rows. A
-- row is written at each turn, and counts where its column is below the power of 2.
use mathlib.Core.Path.{ap, ◌∙◌}
use Prim.Native.Nat.{◌+◌}
use borrow.Author.Rules.{rules}
use Rattle.parity.proofs.Checking.{power_at}
use Rattle.reduced_rows.proofs.ReadingOff.{reducing_none, reducing_next, reducing_end, test_is_one_if}
use Rattle.reduced_rows.proofs.reduced.Goals as goal

pub loop-m-init : goal.loop-m-init
loop-m-init c = reducing_none _ _ (search rules)

pub loop-m-preserved : goal.loop-m-preserved
loop-m-preserved c = reducing_next c.loop-m.invariant (search rules) (search rules) (power_at _ (search rules))
    (ap (λ k. c.loop-m.count + k) (c.from-count.ensures ∙ test_is_one_if _))

pub returns : goal.returns
returns c = reducing_end c.loop-m.invariant (search rules) (search rules)
