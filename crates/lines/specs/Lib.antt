-- What document 01 prints for a table file, as bytes.
pub mod Text
