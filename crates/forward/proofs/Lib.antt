-- Laws that the proofs of the functions cite, lowest first.
pub mod Passing
pub mod First
pub mod Chained
pub mod Held
