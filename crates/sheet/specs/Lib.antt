-- What the printed sheet says of its input.
pub mod Printed
