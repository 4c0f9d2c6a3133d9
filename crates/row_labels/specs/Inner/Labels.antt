-- The labels of rows.
use Rattle.std.specs.Prelude.{List, map, ℕ, ◌/◌, ◌^◌}
use Rattle.rows.specs.Table.{spread}

-- the labels of the rows
abbrev pub labels_of : ℕ → ℕ → List ℕ → List ℕ
labels_of s n rows = map (λ r. spread n (r / 2 ^ s)) rows
