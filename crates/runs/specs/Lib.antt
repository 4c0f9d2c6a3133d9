-- Runs of words with one beginning, and words cut at a depth as pairs of numbers.
pub mod Inner
