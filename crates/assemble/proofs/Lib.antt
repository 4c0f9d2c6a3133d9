-- Why the parts of the section come out as the layout has them.
pub mod SectionParts
pub mod Whole
pub mod Numbers
