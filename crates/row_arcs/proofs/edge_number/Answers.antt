-- `row_arcs::edge_number` puts the three parts together, and by its bound nothing is lost.
use native.Mathlib.Omega.{arith}
use Rattle.row_arcs.proofs.OneEdge.{front_fits, number_is_lem}
use Rattle.row_arcs.proofs.edge_number.Goals as goal

pub overflow_mul-result : goal.overflow_mul-result
overflow_mul-result c = omega (arith, front_fits _ _ _ _ c.requires.1)

pub overflow_add-result : goal.overflow_add-result
overflow_add-result c = omega (arith, front_fits _ _ _ _ c.requires.1)

pub overflow_add-result-2 : goal.overflow_add-result-2
overflow_add-result-2 c = omega (arith, number_is_lem _ _ _ _ c.requires.1, c.requires.1)

pub returns : goal.returns
returns c = number_is_lem _ _ _ _ c.requires.1
