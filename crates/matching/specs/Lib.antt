-- What it means that two sections differ only by the numbers of inner vertices.
pub mod Matching
