pub mod Copying
pub mod Passing
pub mod Thinning
pub mod Answering
