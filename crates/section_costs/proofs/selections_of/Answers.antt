-- `section_costs::selections_of` takes the vertices of all depths from the edges and the roots.
use native.Mathlib.Omega.{arith}
use Rattle.section_costs.proofs.Costs.{selected}
use Rattle.section_costs.proofs.selections_of.Goals as goal

pub returns : goal.returns
returns c = (
  selected c.args.sizes.now c.number.ensures c.from-n.ensures c.additions_of.ensures.0 c.total-vertices.ensures.0
      c.number-2.ensures c.from-roots.ensures c.saturating_sub.ensures,
  omega (arith, c.saturating_sub.ensures, c.additions_of.ensures.1, c.from-roots.ensures, c.from-roots.ensures),
)
