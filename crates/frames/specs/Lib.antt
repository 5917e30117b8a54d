pub mod Hex
pub mod Layers
pub mod Frames
pub mod Rows
pub mod Texts
pub mod Turns
pub mod Laws
