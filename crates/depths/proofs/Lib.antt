-- What each pass keeps while it runs and leaves in its row, and what the rows say of the table, lowest first.
pub mod Words
pub mod Starts
pub mod Firsts
pub mod Goals
pub mod OneDepth
