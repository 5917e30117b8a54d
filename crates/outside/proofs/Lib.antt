-- How the pen's tasks are found, and the windows of its strokes.
pub mod Found
pub mod Windows
