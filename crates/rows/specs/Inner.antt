-- What only the contracts of inner functions cite.
pub mod Reduced
pub mod Growing
pub mod Numbering
pub mod Edges
pub mod Linear
