-- Why a block is passed right: its two ends, and the whole of it; and a chain of blocks.
pub mod Ends
pub mod Passing
pub mod Chains
