-- Laws behind reading back, lowest first, and what reading back gives of the section that merging writes.
pub mod Outcomes
pub mod Again
