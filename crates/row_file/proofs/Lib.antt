-- Why the file holds the words.
pub mod States
pub mod Pieces
pub mod Whole
