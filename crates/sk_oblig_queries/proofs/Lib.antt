pub mod Powers
pub mod Steps
pub mod Narrow
pub mod Order
pub mod Asking
pub mod Spoken
pub mod ArgumentNumbers
pub mod Nothing
