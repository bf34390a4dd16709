pub mod Lowered
pub mod Shown
