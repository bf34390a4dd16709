pub mod Exclusions
pub mod Laws
