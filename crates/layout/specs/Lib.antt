-- The parts of our section, as the contracts of this crate speak of them.
pub mod Inner
