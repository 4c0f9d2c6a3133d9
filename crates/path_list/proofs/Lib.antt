-- Laws that the proofs of the functions cite, lowest first.
pub mod Faults
pub mod Ends
pub mod Held
pub mod Joined
pub mod Listed
