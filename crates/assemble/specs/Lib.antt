-- The numbers of a section, as the contracts of this crate speak of them.
pub mod Inner
