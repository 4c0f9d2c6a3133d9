-- A table file as bytes.
pub mod TableBytes
pub mod Inner
