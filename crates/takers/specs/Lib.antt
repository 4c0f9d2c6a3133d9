-- The edges that words take.
pub mod Inner
