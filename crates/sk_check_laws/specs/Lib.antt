pub mod Parts
pub mod Rejected
pub mod Right
pub mod Laws
