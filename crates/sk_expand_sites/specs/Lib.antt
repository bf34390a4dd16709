pub mod Small
pub mod Listed
pub mod Needs
