-- The least costs of a block from all its vertices, as they lie in one array.
pub mod Inner
