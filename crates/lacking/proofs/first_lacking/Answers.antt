-- `lacking::first_lacking` meets its contract. It leaves at once where an earlier word settles it; else the loop keeps that the runs of the
-- words before k with i's ending have j's ending, and that the words before l with j's ending are in runs before that of k.
use mathlib.Core.Path.{refl, sym, ◌∙◌}
use Rattle.lacking.proofs.Passing.{settled}
use Rattle.lacking.proofs.Lacking.{lacking_more, lacking_hit, lacking_end}
use Rattle.lacking.proofs.first_lacking.Goals as goal

pub returns-then-in_run : goal.returns-then-in_run
returns-then-in_run c =
    settled c.requires c.from-k.ensures c.from-l.ensures
    (sym c.in_run.ensures ∙ c.if-in_run.true)

pub returns-then-not-in_run : goal.returns-then-not-in_run
returns-then-not-in_run c =
    let inv = c.loop-k.invariant in
    lacking_hit inv c.loop-k-test.true refl (c.reach-l.ensures _ inv.asked.chains)
    (sym c.in_run-in-loop-k.ensures ∙ c.if-not-in_run.true)

pub loop-k-preserved : goal.loop-k-preserved
loop-k-preserved c =
    let inv = c.loop-k.invariant in
    lacking_more inv c.loop-k-test.true refl (c.reach-l.ensures _ inv.asked.chains)
    (sym c.in_run-in-loop-k.ensures ∙ c.if-not-in_run.false) c.from-k-in-loop-k.ensures

pub returns : goal.returns
returns c = lacking_end c.loop-k.invariant c.loop-k-test.false
