-- Why the test of the runs is right, lowest first: what first words and counts are, the argument on numbers, and what it says of words.
pub mod FirstLike
pub mod Counting
pub mod Runs
pub mod Agreement
pub mod Cuts
pub mod Keys
pub mod Vertices
