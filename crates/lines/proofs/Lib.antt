-- Laws about the printed lines: what the calls put, one behind another, is the text.
pub mod Lines
