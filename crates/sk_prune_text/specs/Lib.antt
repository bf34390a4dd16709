pub mod PrunedTexts
pub mod Kept
pub mod Laws
