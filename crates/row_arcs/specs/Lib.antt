-- Edges as sums of those that rows take.
pub mod Inner
