-- The layer's promise with its answer in numbers.
pub mod Left
