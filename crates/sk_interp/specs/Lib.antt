pub mod Gives
pub mod Records
pub mod Calling
pub mod Paths
pub mod Places
pub mod Ripple
pub mod Size
