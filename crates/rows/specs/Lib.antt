-- Sums of rows modulo 2, lowest first: the sums, the words they stand for, parity checks and syndromes, powers of 2.
pub mod Sums
pub mod Table
pub mod Check
pub mod Power
pub mod Inner
