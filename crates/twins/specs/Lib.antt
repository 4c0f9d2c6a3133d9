-- Vertices without edges, and twins.
pub mod Inner
