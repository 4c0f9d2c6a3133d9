-- What is paid for a beginning, and what it costs at least in the end along an edge. `rows` has the least costs from the section's
-- vertices, and `prices` what its symbols cost.
use Rattle.std.specs.Prelude.{List, ℕ, suc, ◌+◌, ◌-◌, ◌*◌, ◌/◌, get_or}
use Rattle.trellis.specs.Own.{Edge}
use Rattle.paths.specs.Inner.Ranked.{distance_unit}
use Rattle.dearest.specs.Inner.Items.{cost_in, code_in}
use Rattle.codes.specs.Inner.Codes.{code_vertex}
use Rattle.least_rows.specs.Inner.Rows.{row_at}

-- what is paid for an item of depth t
unfoldable pub paid_for : List ℕ → ℕ → ℕ → ℕ
paid_for rows t x = cost_in x - row_at rows t (code_vertex (code_in x))

-- what is paid and what an edge of step t costs, and the least that is left behind it
unfoldable pub total_of : List ℕ → List ℕ → ℕ → ℕ → Edge → ℕ
total_of rows prices t paid e = paid + get_or prices (4 * t + e.symbol) 0 / distance_unit + row_at rows (suc t) e.to
