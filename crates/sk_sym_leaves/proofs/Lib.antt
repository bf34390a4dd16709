pub mod Operated
pub mod Parts
pub mod Lists
