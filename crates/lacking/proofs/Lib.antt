-- Laws that the proofs of the functions cite, lowest first.
pub mod Search
pub mod Endings
pub mod Passing
pub mod Chains
pub mod Lacking
