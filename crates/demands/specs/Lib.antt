-- The three demands on the kit.
pub mod Decoded
pub mod Several
pub mod Rows
pub mod Only
pub mod Demands
