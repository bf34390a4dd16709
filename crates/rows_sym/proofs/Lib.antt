pub mod Calling
pub mod Fillable
pub mod Inputs
