-- The records of a block sheet and their sums.
pub mod Records
pub mod Inner
