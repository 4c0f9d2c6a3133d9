-- Lines of text: their bytes, and what putting bytes behind others leaves.
pub mod Line
pub mod Inner
