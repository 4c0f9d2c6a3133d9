-- What refusing a table asks and leaves.
pub mod Inner
