-- Two sections compared: what the answer says, for any two lists of numbers.
pub mod Comparing
