pub mod Inputs
pub mod Known
pub mod Parts
pub mod Whole
