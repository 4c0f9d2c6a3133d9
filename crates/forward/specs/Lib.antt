-- The forward pass for the k best paths of a chain, as the code makes it.
pub mod Inner
