-- Why the rows are right: one row, and all of them.
pub mod Sweeping
