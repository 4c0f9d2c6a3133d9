-- The map of a table of sums, depth by depth.
pub mod Inner
