-- Laws that the proofs of the functions cite, lowest first.
pub mod Short
pub mod Printed
