-- Laws that the proofs of the functions cite, lowest first.
pub mod Tests
pub mod Ends
pub mod Carrying
