-- Labels as numbers.
pub mod Inner
