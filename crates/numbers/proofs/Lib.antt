-- Laws of bounds, and of summing numbers.
pub mod Bounds
pub mod Sums
