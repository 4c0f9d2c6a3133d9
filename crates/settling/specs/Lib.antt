-- Notes turned into costs.
pub mod Inner
