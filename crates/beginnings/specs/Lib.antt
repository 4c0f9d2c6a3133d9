-- The k best beginnings in front of a block and behind it, as the code keeps them.
pub mod Inner
