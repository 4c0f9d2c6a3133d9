-- Laws that the proofs of this crate cite, and what later crates need to know of an accepted file.
pub mod Search
pub mod Checks
pub mod Accepted
pub mod Exactly
