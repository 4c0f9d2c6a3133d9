-- What this crate adds to trellis's definitions of labels.
pub mod Inner
