-- Why the notes are the chain's.
pub mod Rows
pub mod Tables
