pub mod Counts
pub mod Honest
pub mod Shown
pub mod Laws
