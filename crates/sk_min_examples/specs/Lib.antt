pub mod Programs
pub mod Asked
pub mod Paired
pub mod Cheapest
