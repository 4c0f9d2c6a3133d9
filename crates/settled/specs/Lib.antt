-- A note turned into its cost.
pub mod Inner
