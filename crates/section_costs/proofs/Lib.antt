-- Sums of counts.
pub mod Costs
