-- Laws about lines and about putting bytes behind others.
pub mod Putting
pub mod Decimal
pub mod Spelling
pub mod Short
