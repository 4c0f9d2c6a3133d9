-- Laws that the proofs of the functions cite, lowest first.
pub mod Marking
pub mod Turned
