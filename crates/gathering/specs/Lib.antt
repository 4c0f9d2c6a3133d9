-- Words found depth by depth.
pub mod Inner
