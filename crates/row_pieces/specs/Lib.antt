-- Pieces of a section from edges as numbers.
pub mod Inner
