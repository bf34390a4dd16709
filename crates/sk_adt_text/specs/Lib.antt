pub mod PlainTexts
pub mod Laws
pub mod Kept
