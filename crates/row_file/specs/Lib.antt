-- The table file of all sums of rows.
pub mod Inner
