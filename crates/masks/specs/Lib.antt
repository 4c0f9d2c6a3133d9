-- The masks of a path.
pub mod Inner
