-- Why the columns come out: what the loops keep.
pub mod Masks
pub mod Columns
pub mod TopBit
pub mod Checking
pub mod Fronts
