-- What was received for a block.
pub mod Received
