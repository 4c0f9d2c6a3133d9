-- Why the demands are met, why an erased symbol's cost leaves the winning path alone, and that a section can be numbered otherwise.
pub mod Ends
pub mod SameDrawing
pub mod Demanded
pub mod Decoded
pub mod Several
pub mod Erasures
pub mod TableBytes
pub mod Rows
pub mod Only
pub mod Exchanged
pub mod Demands
