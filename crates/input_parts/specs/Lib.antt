-- The input of a block sheet.
pub mod Input
pub mod Inner
