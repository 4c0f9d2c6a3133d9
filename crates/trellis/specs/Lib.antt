-- The theory of trellis sections, lowest first: what each file defines is used by those below it.
pub mod Bounds
pub mod Lists
pub mod Label
pub mod Comparing
pub mod Word
pub mod Own
pub mod Selections
pub mod Section
pub mod Layout
pub mod Drawn
pub mod Witness
pub mod Outcome
pub mod Inner
