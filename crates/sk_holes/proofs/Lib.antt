pub mod Lists
pub mod Lengths
pub mod RangeLaws
pub mod Numbers
pub mod ProgramLaws
