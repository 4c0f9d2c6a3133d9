-- The search for a witness.
pub mod Inner
