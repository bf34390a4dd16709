pub mod MarkLaws
pub mod StandLaws
pub mod Lengths
pub mod Rows
