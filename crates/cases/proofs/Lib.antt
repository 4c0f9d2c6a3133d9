-- That every marked case shows what the paper says.
pub mod Computed
