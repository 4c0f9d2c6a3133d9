-- Labels held against each other.
pub mod Inner
