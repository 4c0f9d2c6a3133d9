-- What buffers need.
pub mod Room
pub mod Inner
