-- What decoding a frame leaves.
pub mod Decoding
