pub mod Counts
pub mod Spent
pub mod Shown
pub mod Lines
