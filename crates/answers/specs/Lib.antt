-- The answers of the kit in document 01's and document 02's numbers.
pub mod Answers
