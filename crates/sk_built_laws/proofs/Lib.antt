pub mod Fillable
pub mod Taken
pub mod Refusals
