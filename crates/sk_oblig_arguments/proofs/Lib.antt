pub mod Shaping
pub mod Reading
