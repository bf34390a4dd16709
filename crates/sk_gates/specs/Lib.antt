pub mod Extension
pub mod Bits
pub mod Words
pub mod Division
pub mod Sharing
