-- The laws behind this crate's promises, lowest first, and what callers cite.
pub mod Digits
pub mod Shifts
pub mod Order
