-- Laws that the proofs of this crate cite, and what later crates need to know of a usable section.
pub mod Reading
pub mod Usable
pub mod Seen
pub mod Words
pub mod Own
pub mod OwnWords
