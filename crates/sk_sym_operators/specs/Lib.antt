pub mod Worth
pub mod Answers
pub mod Bitwise
pub mod Fitting
