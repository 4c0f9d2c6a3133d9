-- `depth_runs::agrees` meets its contract: the test of the definition, read off the rows. The places looked at are words', since rows point
-- backward.
use Rattle.depth_runs.proofs.Agreement.{agrees_no, agrees_yes}
use Rattle.depth_runs.proofs.agrees.Goals as goal

pub returns-then-own-first_word : goal.returns-then-own-first_word
returns-then-own-first_word c =
    agrees_no _ c.args.starts.now c.args.firsts.now c.args.i _ _ _ c.from-start.ensures
    c.first_word-own.ensures c.first_word.ensures c.if-own-first_word.true

pub returns : goal.returns
returns c =
    agrees_yes _ c.args.starts.now c.args.firsts.now c.args.i _ _ _ c.from-start.ensures
    c.first_word-own.ensures
    c.first_word.ensures _ _ c.if-own-first_word.false c.goes_on.ensures c.goes_on-2.ensures
