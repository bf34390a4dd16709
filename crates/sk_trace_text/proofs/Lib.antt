pub mod Fillable
pub mod Ends
pub mod TextLaws
