-- What is printed for a table, and a text in a lent buffer.
pub mod Listing
