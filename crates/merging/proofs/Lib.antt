-- Laws that the proofs of the functions cite, lowest first.
pub mod MapRows
pub mod LastStage
pub mod Success
