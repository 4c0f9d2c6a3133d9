-- One block of a chain: what passing it leaves, and what its loops keep.
pub mod Inner
