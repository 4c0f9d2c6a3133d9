-- The printed sizes of a table: what a call leaves.
pub mod Inner
