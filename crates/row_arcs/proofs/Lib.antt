-- Laws that the proofs of the functions cite, lowest first.
pub mod OneEdge
pub mod RowArcs
pub mod StepSums
pub mod AllSteps
