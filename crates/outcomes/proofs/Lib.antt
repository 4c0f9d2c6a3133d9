-- Laws for those who make an outcome in numbers case by case, and for those who take it apart.
pub mod Held
pub mod Numbering
