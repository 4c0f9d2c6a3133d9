-- The numbers of a section, from its parts.
pub mod Inner
