-- Laws that the proofs of the functions cite, lowest first.
pub mod FirstWords
pub mod Scanning
pub mod Steps
