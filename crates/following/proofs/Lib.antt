-- Laws that the proofs of the functions cite, lowest first.
pub mod Steps
pub mod Front
pub mod Depths
