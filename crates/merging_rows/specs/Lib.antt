-- What merging generator rows leaves.
pub mod MergingRows
pub mod Inner
