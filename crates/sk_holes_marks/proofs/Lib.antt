pub mod Joined
pub mod Rows
pub mod Whole
pub mod SameMarks
pub mod ZeroLaws
