-- Laws that the proofs of the functions cite, lowest first.
pub mod Entrance
pub mod Leaving
pub mod Runs
pub mod Notes
pub mod Standing
pub mod Sections
pub mod Rooted
pub mod Blocks
