-- What only the contracts of inner functions cite.
pub mod Graph
pub mod Costs
pub mod Sections
pub mod Chains
pub mod OneBlock
pub mod Ranked
pub mod Ordered
