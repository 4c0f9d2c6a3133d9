-- What only the contracts of inner functions cite.
pub mod Whole
pub mod StepAt
