pub mod Certificates
pub mod Words
pub mod Readers
pub mod Steps
pub mod Departing
pub mod Examples
