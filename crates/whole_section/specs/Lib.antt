-- The section that a list is, and the edges of its steps.
pub mod Inner
