-- Rows of a depth.
pub mod Inner
