-- What is left to pay behind a block.
pub mod Inner
