pub mod Plain
pub mod Heads
pub mod Laws
pub mod Examples
