pub mod Lists
pub mod Runs
pub mod Costs
pub mod Asks
pub mod Pairs
pub mod Bests
