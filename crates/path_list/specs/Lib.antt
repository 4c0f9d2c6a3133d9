-- What listing the best paths of a frame leaves.
pub mod Listing
pub mod Inner
