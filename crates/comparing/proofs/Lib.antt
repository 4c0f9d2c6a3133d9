-- Laws that the proofs of the functions cite, lowest first.
pub mod Fields
pub mod Folding
pub mod Marks
