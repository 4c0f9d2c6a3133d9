-- Theorems about the definitions of specs/, lowest first.
pub mod Choose
pub mod First
pub mod Ordered
pub mod Walk
pub mod Capped
pub mod Trace
pub mod Sections
pub mod Ascent
pub mod Packed
pub mod Words
pub mod Chain
pub mod Winner
pub mod Dearer
pub mod Block
pub mod Blocks
pub mod Ranks
pub mod Ranked
