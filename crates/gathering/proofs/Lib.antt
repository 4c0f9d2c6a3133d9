-- Laws that the proofs of the functions cite, lowest first.
pub mod Levels
pub mod Growing
pub mod Depths
