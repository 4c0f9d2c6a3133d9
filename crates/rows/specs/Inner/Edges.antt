-- Edges in one number, for vertices below 2 ^ d at the step's end: from, then the symbol's bit, then to. So they are ordered as the numbers
-- are.
use Rattle.std.specs.Prelude.{ℕ, ◌+◌, ◌*◌, ◌/◌, ◌%◌, ◌^◌}
use Rattle.trellis.specs.Own.{Edge, edge}

unfoldable pub edge_number : ℕ → ℕ → ℕ → ℕ → ℕ
edge_number d from symbol to = (from * 2 + symbol) * 2 ^ d + to

abbrev pub edge_from : ℕ → ℕ → Edge
edge_from d x = edge (x / 2 ^ d / 2) (x / 2 ^ d % 2) (x % 2 ^ d)
