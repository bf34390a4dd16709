pub mod Met
pub mod Parses
