-- Why the checks of merging generator rows and its last stage fit together.
pub mod Entry
