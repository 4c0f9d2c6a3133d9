-- Parity checks by their columns.
pub mod Inner
