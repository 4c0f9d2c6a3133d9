-- Edges in the order of their vertices.
pub mod Inner
