-- Usable sections as the code checks them.
pub mod Inner
