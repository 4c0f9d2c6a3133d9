-- The outer depths.
pub mod inner
