-- The frame of a chain.
pub mod Frame
pub mod Inner
