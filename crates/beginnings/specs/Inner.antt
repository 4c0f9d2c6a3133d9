-- What only the contracts of inner functions cite.
pub mod Trails
pub mod Entering
pub mod Standing
