pub mod Bits
pub mod Exact
pub mod Denying
pub mod Excluded
