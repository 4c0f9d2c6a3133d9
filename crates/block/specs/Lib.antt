-- What the symbols of a block cost.
pub mod Inner
