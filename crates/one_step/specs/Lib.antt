-- One step of a section.
pub mod Inner
