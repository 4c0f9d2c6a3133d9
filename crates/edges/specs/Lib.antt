-- The edges of a step.
pub mod Inner
