-- The table file.
pub mod Fields
pub mod Inner
