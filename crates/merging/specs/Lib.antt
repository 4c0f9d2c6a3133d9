-- What merging leaves.
pub mod Merging
pub mod Inner
