pub mod FirstMark
pub mod Answering
pub mod Answered
