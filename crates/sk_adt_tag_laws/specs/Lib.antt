pub mod Fillings
pub mod Examples
