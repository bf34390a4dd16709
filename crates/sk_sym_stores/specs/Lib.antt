pub mod Locations
pub mod Replaced
pub mod Kinds
pub mod Stores
pub mod Records
