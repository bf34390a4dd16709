pub mod Values
pub mod Heaps
