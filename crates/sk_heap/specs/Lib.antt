pub mod Types
pub mod Zeros
pub mod Fields
pub mod Heaps
pub mod Answers
pub mod Steps
pub mod Retakes
