-- The outer depths.
pub mod Inner
