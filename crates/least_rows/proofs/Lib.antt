-- Why the rows are right: the costs of ranks, one row, and all of them.
pub mod Unranked
pub mod Saving
pub mod AllRows
