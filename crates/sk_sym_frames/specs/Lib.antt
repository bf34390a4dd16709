pub mod Ended
pub mod Frames
