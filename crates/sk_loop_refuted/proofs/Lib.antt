pub mod Loading
pub mod Answering
