-- Outcomes in numbers.
pub mod Inner
pub mod Numbered
