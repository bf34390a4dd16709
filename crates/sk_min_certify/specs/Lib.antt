pub mod Proves
pub mod Stops
pub mod Certified
