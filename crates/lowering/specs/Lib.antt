-- Rows of a sweep.
pub mod Inner
