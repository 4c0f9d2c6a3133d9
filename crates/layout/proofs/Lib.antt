-- Why the pieces of all steps come out one behind another; states by rank, marks.
pub mod Ranks
pub mod Marks
pub mod AllPieces
pub mod StateMarks
