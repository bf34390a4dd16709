pub mod Near
pub mod Notes
pub mod Options
pub mod Slips
pub mod Numbers
pub mod Words
