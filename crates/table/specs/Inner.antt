-- What only the contracts of inner functions cite.
pub mod Good
pub mod Answer
