pub mod Meaning
pub mod WellFormed
