pub mod Walk
pub mod Parts
pub mod Calls
pub mod Turns
pub mod Copies
pub mod Orders
pub mod Targets
pub mod Patterns
