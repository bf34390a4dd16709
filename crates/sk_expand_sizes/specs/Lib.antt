pub mod Tally
pub mod Count
pub mod Calls
pub mod Sums
pub mod Sizes
