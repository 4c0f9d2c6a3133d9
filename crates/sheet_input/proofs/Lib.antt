-- Why reading the input of a block sheet leaves what it should.
pub mod Measuring
pub mod Tables
pub mod Right
pub mod Far
