-- Why the sheet that is made is the sheet of its input.
pub mod Short
pub mod Whole
pub mod Printed
