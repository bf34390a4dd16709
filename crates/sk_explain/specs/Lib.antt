pub mod Explained
pub mod Keeping
