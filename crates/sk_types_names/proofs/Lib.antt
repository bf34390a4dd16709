pub mod Places
pub mod NumberLaws
pub mod Follows
pub mod TableLaws
pub mod ListedLaws
pub mod SlotLaws
