-- Laws that the proofs of the functions cite, lowest first.
pub mod Tests
pub mod Ranges
pub mod Reading
