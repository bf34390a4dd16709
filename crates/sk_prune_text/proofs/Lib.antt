pub mod Once
pub mod TextLaws
pub mod Keeping
