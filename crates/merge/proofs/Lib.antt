-- Why each stage of merging leaves what the definition says, from the map's rows to the answer.
pub mod FileStage
pub mod Answered
