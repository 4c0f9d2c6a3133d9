-- `depths::merge_depth` meets its contract: what the passes leave in their rows, the test and the numbering come to the depth's outcome.
use mathlib.Core.Path.{sym, ◌∙◌}
use Rattle.depths.proofs.OneDepth.{depth_backward, depth_refused, depth_to_number, depth_merged}
use Rattle.depths.proofs.Firsts.{row_small}
use borrow.Author.Rules.{rules}
use Rattle.depths.proofs.merge_depth.Goals as goal

pub put_firsts-requires : goal.put_firsts-requires
put_firsts-requires c = (search rules, row_small c.requires.held c.requires.ends)

pub runs_agree-requires : goal.runs_agree-requires
runs_agree-requires c = (search rules, depth_backward c.requires c.put_starts.ensures c.put_firsts.ensures)

pub returns-then-not-runs_agree : goal.returns-then-not-runs_agree
returns-then-not-runs_agree c =
    depth_refused c.requires c.put_starts.ensures c.put_firsts.ensures
    (sym c.if-not-runs_agree.true ∙ c.runs_agree.ensures)

pub put_numbers-requires : goal.put_numbers-requires
put_numbers-requires c =
    depth_to_number c.requires c.put_starts.ensures c.put_firsts.ensures
    (sym c.if-not-runs_agree.false ∙ c.runs_agree.ensures)

pub returns : goal.returns
returns c =
    depth_merged c.requires c.put_starts.ensures c.put_firsts.ensures
    (sym c.if-not-runs_agree.false ∙ c.runs_agree.ensures) c.put_numbers.ensures
