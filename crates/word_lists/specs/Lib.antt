-- Words in three lists.
pub mod Inner
