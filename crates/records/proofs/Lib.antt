-- Laws about sums of records, and about the front of an array in memory.
pub mod Summing
pub mod Front
