-- Why the sections that are found are those of the list.
pub mod Sections
