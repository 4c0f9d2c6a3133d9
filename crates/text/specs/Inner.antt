-- What only the contracts of inner functions cite.
pub mod Put
pub mod Digits
