pub mod Table
pub mod Filling
pub mod Range
pub mod Whole
