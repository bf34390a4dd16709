pub mod Layout
pub mod Joined
pub mod Shows
pub mod SpansUnseen
pub mod Examples
