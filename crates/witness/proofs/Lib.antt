-- What the rows say of the words, and that the search finds the first witness.
pub mod Words
