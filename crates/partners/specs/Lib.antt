-- The partners of vertices.
pub mod Inner
