pub mod Refuting
pub mod Above
pub mod Below
pub mod Putting
