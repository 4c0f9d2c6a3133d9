-- Why the pieces of a section come out.
pub mod AllPieces
pub mod Laid
