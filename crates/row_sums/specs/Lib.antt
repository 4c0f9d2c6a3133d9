-- Sums by doubling.
pub mod Inner
