-- One inner depth.
pub mod Inner
