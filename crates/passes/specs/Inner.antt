-- What only the contracts of inner functions cite.
pub mod Blocks
pub mod Loops
pub mod Chains
