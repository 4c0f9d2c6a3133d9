-- The block sheet.
pub mod Sheet
pub mod Inner
