pub mod Greatest
pub mod Bests
