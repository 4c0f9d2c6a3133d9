-- Why usable sections with the same words differ only by the numbers of inner vertices, lowest first.
pub mod Routes
pub mod Matches
pub mod Sections
pub mod Counting
pub mod Laid
pub mod Renumbering
pub mod Carried
pub mod Onto
