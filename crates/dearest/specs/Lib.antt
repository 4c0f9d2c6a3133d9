-- Items as numbers.
pub mod Inner
