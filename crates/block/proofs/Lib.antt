-- Laws of a block's prices.
pub mod Costs
