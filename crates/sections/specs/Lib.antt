-- Sections one behind another: where each begins, and fault 8.
pub mod Sections
pub mod Inner
