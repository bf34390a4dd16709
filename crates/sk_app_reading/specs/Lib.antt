pub mod Streams
pub mod ReadStep
