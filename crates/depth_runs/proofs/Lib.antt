-- Laws that the proofs of the functions cite, lowest first.
pub mod Places
pub mod Agreement
pub mod Numbers
