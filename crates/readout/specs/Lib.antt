-- The paths that were kept, read out.
pub mod Inner
