pub mod Lists
pub mod Passing
pub mod Pairs
pub mod Completing
pub mod Learning
pub mod Numbering
pub mod Counting
pub mod Listing
