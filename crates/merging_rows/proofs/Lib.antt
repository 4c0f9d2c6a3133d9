-- Laws that the proofs of the functions cite, lowest first.
pub mod Ways
pub mod StepEdges
pub mod Numbers
pub mod Ending
