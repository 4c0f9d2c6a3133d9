-- What filling the cost table asks and leaves.
pub mod Inner
