-- Laws that the proofs of the functions cite, lowest first.
pub mod Backward
pub mod Paths
pub mod Sorted
