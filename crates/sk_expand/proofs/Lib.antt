pub mod Widths
pub mod Numbers
pub mod Calls
pub mod Turns
pub mod NodeLaws
pub mod Kept
pub mod Ordinary
pub mod Whole
