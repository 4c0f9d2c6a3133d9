-- A parity check that grows row by row: what holds when the first j rows are taken up and none of them is a sum of those before it.
use Rattle.std.specs.Prelude.{◌≡◌, List, ℕ, ◌<◌, length, take, T}
use Rattle.rows.specs.Sums.{is_dependent}
use Rattle.rows.specs.Inner.Reduced.{Spans, reduced_rows}

pub record Grown (N : ℕ) (rows : List ℕ) (j : ℕ) (columns : List ℕ) : Type 0 where
  pub spans : Spans N (take j rows) columns
  pub count : length (reduced_rows columns) ≡ j
  pub none : (i : ℕ) → i < j → T (is_dependent rows i) → ⊥
