pub mod Marking
pub mod Words
pub mod Zeroed
