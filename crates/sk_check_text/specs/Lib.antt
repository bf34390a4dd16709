pub mod Splitting
pub mod Steps
pub mod Checking
pub mod Laws
pub mod Examples
