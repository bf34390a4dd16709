pub mod Code
pub mod Split
pub mod Meaning
pub mod Problem
pub mod Values
