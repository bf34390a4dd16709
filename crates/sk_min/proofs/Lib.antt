pub mod Lists
pub mod Bests
pub mod Raises
pub mod Cheapest
pub mod Lowers
pub mod Turns
