-- Why the answer is the definition's, lowest first.
pub mod Comparing
pub mod Answers
