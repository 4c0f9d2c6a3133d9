-- Our section is not large: it has no more vertices at a depth and no more edges at a step than the table has words, as each of them is
-- some word's.
use mathlib.Core.List.{List}
use Prim.Native.Nat.{ℕ, ◌≤◌}
use native.Mathlib.Omega.{arith}
use lib.ListN.{length}
use lib.Dec.{ltb}
use Rattle.trellis.specs.Lists.{each}
use Rattle.trellis.specs.Word.{Word}
use Rattle.trellis.specs.Own.{edge_less, key, keys, vertex_count, edge_of, edges_at, edge_count}
use Rattle.trellis.proofs.Lists.{length_run}
use Rattle.trellis.proofs.Ascending.{numbers, ascending_length}
use Rattle.trellis.proofs.Paths.{edges_order}

module _ (n : ℕ) (table : List Word) where
  pub vertices_few : (t : ℕ) → vertex_count n table t ≤ length table
  unfolding vertex_count keys
  vertices_few t = omega
      (arith, ascending_length ltb numbers (each (key n table t) (length table)), length_run (key n table t) 0 (length table))

  pub edges_few : (t : ℕ) → edge_count n table t ≤ length table
  unfolding edge_count edges_at
  edges_few t = omega (
    arith,
    ascending_length edge_less edges_order (each (edge_of n table t) (length table)),
    length_run (edge_of n table t) 0 (length table),
  )
