pub mod Numbers
pub mod Scalars
pub mod Values
pub mod Joined
