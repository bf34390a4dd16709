pub mod Alike
pub mod Rejecting
pub mod Asked
