-- Why admitting an item leaves the k best.
pub mod Admitting
