-- Laws of the whole map.
pub mod AllDepths
pub mod Whole
