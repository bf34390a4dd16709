pub mod Names
pub mod Copies
pub mod Few
pub mod Expansion
pub mod Fillings
