-- `depth_runs::runs_agree` meets its contract. The loop keeps that all words before i agree.
use borrow.Author.Rules.{rules}
use mathlib.Core.Path.{sym, ◌∙◌}
use Rattle.depth_runs.proofs.Agreement.{agreement_none, agreement_more, agreement_no, agreement_yes}
use Rattle.depth_runs.proofs.runs_agree.Goals as goal

pub loop-i-init : goal.loop-i-init
loop-i-init c = agreement_none _ _ _

pub returns-then-not-agrees : goal.returns-then-not-agrees
returns-then-not-agrees c =
    agreement_no c.loop-i.invariant (sym c.agrees.ensures ∙ c.if-not-agrees.true)
    (search rules)

pub loop-i-preserved : goal.loop-i-preserved
loop-i-preserved c =
    agreement_more c.loop-i.invariant (sym c.agrees.ensures ∙ c.if-not-agrees.false)
    (search rules)

pub returns : goal.returns
returns c = agreement_yes c.loop-i.invariant (search rules)
