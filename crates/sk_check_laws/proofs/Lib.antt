pub mod Excluding
mod Spared
pub mod Certified
