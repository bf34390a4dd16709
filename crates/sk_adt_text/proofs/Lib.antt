pub mod PlainLaws
pub mod Answering
pub mod Keeping
