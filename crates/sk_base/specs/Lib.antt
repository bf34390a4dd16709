pub mod Word
pub mod Stream
pub mod Memory
