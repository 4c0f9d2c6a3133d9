-- `lacking::reach` meets its contract. The loop keeps, whatever the endings that the chains go along, that all words passed are in runs
-- before the one that starts at a.
use mathlib.Core.Path.{sym, ◌∙◌}
use native.Mathlib.Omega.{arith}
use Rattle.lacking.proofs.Endings.{before_yes}
use Rattle.lacking.proofs.Chains.{way_more, way_end}
use Rattle.lacking.proofs.reach.Goals as goal

pub offset_bounds-next-word : goal.offset_bounds-next-word
offset_bounds-next-word c = omega (arith, (before_yes _ _ _ _ (sym c.before_run.ensures ∙ c.loop-word-test.true)).0, c.requires.0)

pub bounds-next-word : goal.bounds-next-word
bounds-next-word c = omega (arith, (before_yes _ _ _ _ (sym c.before_run.ensures ∙ c.loop-word-test.true)).0, c.requires.0)

pub loop-word-smaller : goal.loop-word-smaller
loop-word-smaller c =
    let lt = (before_yes _ _ _ _ (sym c.before_run.ensures ∙ c.loop-word-test.true)).0 in
    omega (arith, c.from-word.ensures, c.requires.1 _ lt)

pub loop-word-preserved : goal.loop-word-preserved
loop-word-preserved c =
    λ firsts C. way_more C (c.loop-word.invariant firsts C) (sym c.before_run.ensures ∙ c.loop-word-test.true)
    c.from-word.ensures

pub returns : goal.returns
returns c = λ firsts C. way_end (c.loop-word.invariant firsts C) (sym c.before_run.ensures ∙ c.loop-word-test.false)
