-- Laws about the printed text: it follows from the answer of measuring, and buffers of fixed lengths are long enough for it.
pub mod Answering
pub mod Room
pub mod Refusals
pub mod Short
pub mod Merged
pub mod Outcomes
