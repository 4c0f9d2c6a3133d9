-- `parity::each_row` fills an array from the front: the loop keeps that those of the first b rows stand.
use borrow.Author.Rules.{rules}
use Rattle.parity.proofs.Fronts.{each_next}
use Rattle.parity.proofs.each_row.Goals as goal

pub loop-b-preserved : goal.loop-b-preserved
loop-b-preserved g c = (
  each_next (goal.F-post g c.args.f) _ _ c.loop-b.invariant.0 (search rules) (search rules),
  search rules,
)
