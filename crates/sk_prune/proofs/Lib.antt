pub mod Numbers
pub mod Finding
pub mod Trimming
pub mod Keeping
