pub mod Shorter
pub mod Listing
pub mod Sooner
pub mod Chaining
pub mod Places
pub mod Pieces
