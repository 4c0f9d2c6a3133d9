-- Sections in numbers: which are usable, what that says of them, and the answers of this crate.
pub mod Usable
pub mod Inner
