-- Reading a section back into a table file: the file, what reading back leaves, and the words found depth by depth.
pub mod ReadingBack
