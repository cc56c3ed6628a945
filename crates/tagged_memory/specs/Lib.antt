pub mod Frames
pub mod Zipped
