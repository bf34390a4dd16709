pub mod Separated
pub mod Counts
