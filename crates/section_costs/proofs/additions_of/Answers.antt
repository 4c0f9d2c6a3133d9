-- `section_costs::additions_of` sums the edge counts, which stand behind the n + 1 vertex counts.
use native.Mathlib.Omega.{arith}
use Rattle.section_costs.proofs.Costs.{edges_sum}
use Rattle.section_costs.proofs.additions_of.Goals as goal

pub returns : goal.returns
returns c = (
  edges_sum c.args.sizes.now c.number.ensures c.from-n.ensures c.total.ensures.0,
  omega (arith, c.total.ensures.1, c.from-n.ensures),
)
