-- What only the contracts of inner functions cite.
pub mod Bests
pub mod Kept
pub mod Growth
pub mod Chain
pub mod Block
