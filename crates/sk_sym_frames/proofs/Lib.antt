pub mod Refs
pub mod Results
pub mod Frames
