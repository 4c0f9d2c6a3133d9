-- What a pass over a table computes, and what merging asks and leaves.
pub mod Inner
