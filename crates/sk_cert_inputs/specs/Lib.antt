pub mod Inputs
pub mod Reading
pub mod Words
pub mod Laws
