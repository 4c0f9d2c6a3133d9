-- Three fields in one number.
pub mod Inner
