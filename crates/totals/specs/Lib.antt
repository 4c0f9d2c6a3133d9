-- What a beginning costs at least in the end.
pub mod Inner
