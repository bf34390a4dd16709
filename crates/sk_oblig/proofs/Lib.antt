pub mod Ranges
pub mod Parameters
pub mod Speaking
pub mod Listed
pub mod Whole
pub mod Judged
pub mod Answering
