pub mod Makers
pub mod LowBits
