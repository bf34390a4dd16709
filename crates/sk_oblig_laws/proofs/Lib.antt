pub mod Saying
pub mod Ranges
