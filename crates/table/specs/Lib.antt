-- What the checks of a table file say, what holds of an accepted one, and what the functions of this crate answer.
pub mod File
pub mod Inner
