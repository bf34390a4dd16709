pub mod Envs
pub mod Elaborate
pub mod Owns
pub mod Parts
pub mod Making
pub mod Whole
pub mod LawNames
