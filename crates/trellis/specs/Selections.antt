-- What a section costs, by its counts: additions and selections.
use Rattle.std.specs.Prelude.{ℕ, suc, ◌+◌, ◌-◌}
use Rattle.trellis.specs.Lists.{sum}

-- v t vertices at depth t and e t edges at step t: all vertices, all edges
unfoldable pub all_vertices : ℕ → (ℕ → ℕ) → ℕ
all_vertices n v = sum v 0 (suc n)

-- document 01's additions
unfoldable pub additions : ℕ → (ℕ → ℕ) → ℕ
additions n e = sum e 0 n

-- document 01's selections, E - V + R. Nothing is cut off at 0: V ≤ E + R for every drawn section (proofs/Least)
unfoldable pub selections : ℕ → (ℕ → ℕ) → (ℕ → ℕ) → ℕ
selections n v e = (additions n e + v 0) - all_vertices n v
