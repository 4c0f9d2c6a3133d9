-- The labels of rows.
pub mod Inner
